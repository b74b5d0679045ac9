use Rattle.sw_container_server.proofs.Left.{leaves_held}
use Rattle.sw_container_server.proofs.laws.leaves_held.Goals as goal

pub returns : goal.returns
returns c = leaves_held
