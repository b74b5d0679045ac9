use Rattle.sw_pending.proofs.Exact.{some_outcome}
use Rattle.sw_pending.proofs.laws.some_outcome.Goals as goal

pub returns : goal.returns
returns c = some_outcome
