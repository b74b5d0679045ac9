use Rattle.sw_container_server.proofs.OneAnswer.{refused_changes_nothing}
use Rattle.sw_container_server.proofs.laws.refused_changes_nothing.Goals as goal

pub returns : goal.returns
returns g c = refused_changes_nothing g.D.Door.sight
