use Rattle.sw_state.proofs.StateLaws.{idempotent}
use Rattle.sw_state.proofs.laws.at_least_itself.Goals as goal

pub returns : goal.returns
returns c = idempotent
