use Rattle.sw_replicator.proofs.Exchanging as proofs
use Rattle.sw_replicator.proofs.laws.exchange_meets.Goals as goal

pub returns : goal.returns
returns c = proofs.exchange_meets
