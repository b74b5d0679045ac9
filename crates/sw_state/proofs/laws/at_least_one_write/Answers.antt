use Rattle.sw_state.proofs.JoinLaws.{at_least_one_write}
use Rattle.sw_state.proofs.laws.at_least_one_write.Goals as goal

pub returns : goal.returns
returns c = at_least_one_write
