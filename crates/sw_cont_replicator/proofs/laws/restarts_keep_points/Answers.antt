use Rattle.sw_cont_replicator.proofs.Pointing as proofs
use Rattle.sw_cont_replicator.proofs.laws.restarts_keep_points.Goals as goal

pub returns : goal.returns
returns c = proofs.restarts-keep-points
