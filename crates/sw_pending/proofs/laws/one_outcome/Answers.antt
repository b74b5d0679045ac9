use Rattle.sw_pending.proofs.Exact.{one_outcome}
use Rattle.sw_pending.proofs.laws.one_outcome.Goals as goal

pub returns : goal.returns
returns c = one_outcome
