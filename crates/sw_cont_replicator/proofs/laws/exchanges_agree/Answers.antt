use Rattle.sw_cont_replicator.proofs.Exchanging as proofs
use Rattle.sw_cont_replicator.proofs.laws.exchanges_agree.Goals as goal

pub returns : goal.returns
returns c = proofs.exchanges-agree
