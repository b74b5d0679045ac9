use Rattle.sw_cont_replicator.proofs.Exchanging as proofs
use Rattle.sw_cont_replicator.proofs.laws.exchanges_meet.Goals as goal

pub returns : goal.returns
returns c = proofs.exchanges-meet
