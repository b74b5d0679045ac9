use Rattle.sw_pending.proofs.Exact.{reads_back}
use Rattle.sw_pending.proofs.laws.reads_back.Goals as goal

pub returns : goal.returns
returns c = reads_back
