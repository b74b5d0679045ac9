use Rattle.sw_state.proofs.StateLaws.{idempotent}
use Rattle.sw_state.proofs.laws.join_is_idempotent.Goals as goal

pub returns : goal.returns
returns c = idempotent
