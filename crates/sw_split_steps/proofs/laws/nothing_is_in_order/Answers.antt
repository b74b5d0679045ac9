use Rattle.sw_split_steps.proofs.Ordering.{nothing-in-order}
use Rattle.sw_split_steps.proofs.laws.nothing_is_in_order.Goals as goal

pub returns : goal.returns
returns c = nothing-in-order
