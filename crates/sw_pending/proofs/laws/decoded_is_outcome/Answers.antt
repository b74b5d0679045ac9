use Rattle.sw_pending.proofs.Exact.{decoded_is_outcome}
use Rattle.sw_pending.proofs.laws.decoded_is_outcome.Goals as goal

pub returns : goal.returns
returns c = decoded_is_outcome
