use Rattle.sw_expiry.proofs.QueueLaws.{entries-in-order}
use Rattle.sw_expiry.proofs.laws.entries_are_in_order.Goals as goal

pub returns : goal.returns
returns c = entries-in-order
