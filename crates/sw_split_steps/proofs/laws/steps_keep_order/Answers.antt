use Rattle.sw_split_steps.proofs.Ordering.{steps-keep-order}
use Rattle.sw_split_steps.proofs.laws.steps_keep_order.Goals as goal

pub returns : goal.returns
returns c = steps-keep-order
