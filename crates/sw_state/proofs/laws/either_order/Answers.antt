use Rattle.sw_state.proofs.JoinLaws.{either_order}
use Rattle.sw_state.proofs.laws.either_order.Goals as goal

pub returns : goal.returns
returns c = either_order
