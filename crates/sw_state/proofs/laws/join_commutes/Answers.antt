use Rattle.sw_state.proofs.JoinLaws.{commutes}
use Rattle.sw_state.proofs.laws.join_commutes.Goals as goal

pub returns : goal.returns
returns c = commutes
