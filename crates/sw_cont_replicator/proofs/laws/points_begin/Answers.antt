use Rattle.sw_cont_replicator.proofs.Pointing as proofs
use Rattle.sw_cont_replicator.proofs.laws.points_begin.Goals as goal

pub returns : goal.returns
returns c = proofs.points-begin
