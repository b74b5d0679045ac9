use Rattle.sw_state.proofs.JoinLaws.{join_is_at_least}
use Rattle.sw_state.proofs.laws.join_is_at_least.Goals as goal

pub returns : goal.returns
returns c = join_is_at_least
