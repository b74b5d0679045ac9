use Rattle.sw_cont_replicator.proofs.Exchanging as proofs
use Rattle.sw_cont_replicator.proofs.laws.pushes_reach.Goals as goal

pub returns : goal.returns
returns c = proofs.pushes-reach
