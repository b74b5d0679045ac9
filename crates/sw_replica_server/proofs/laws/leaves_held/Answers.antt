use Rattle.sw_replica_server.proofs.Held.{leaves_held}
use Rattle.sw_replica_server.proofs.laws.leaves_held.Goals as goal

pub returns : goal.returns
returns c = leaves_held
