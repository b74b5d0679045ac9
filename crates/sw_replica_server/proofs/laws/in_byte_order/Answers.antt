use Rattle.sw_replica_server.proofs.Order.{in_byte_order}
use Rattle.sw_replica_server.proofs.laws.in_byte_order.Goals as goal

pub returns : goal.returns
returns c = in_byte_order
