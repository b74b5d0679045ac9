use Rattle.sw_pending.proofs.Exact.{decoded_reads_back}
use Rattle.sw_pending.proofs.laws.decoded_reads_back.Goals as goal

pub returns : goal.returns
returns c = decoded_reads_back
