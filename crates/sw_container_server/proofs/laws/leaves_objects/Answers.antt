use Rattle.sw_container_server.proofs.Left.{leaves_objects}
use Rattle.sw_container_server.proofs.laws.leaves_objects.Goals as goal

pub returns : goal.returns
returns g c = leaves_objects g.D.Door.sight
