use Rattle.sw_pending_dir.proofs.Order.{order_is_told}
use Rattle.sw_pending_dir.proofs.laws.order_is_told.Goals as goal

pub returns : goal.returns
returns c = order_is_told
