use Rattle.sw_expiry.proofs.QueueLaws.{containers-in-order}
use Rattle.sw_expiry.proofs.laws.containers_are_in_order.Goals as goal

pub returns : goal.returns
returns c = containers-in-order
