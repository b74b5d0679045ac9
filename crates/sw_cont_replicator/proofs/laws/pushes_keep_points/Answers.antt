use Rattle.sw_cont_replicator.proofs.Pointing as proofs
use Rattle.sw_cont_replicator.proofs.laws.pushes_keep_points.Goals as goal

pub returns : goal.returns
returns c = proofs.pushes-keep-points
