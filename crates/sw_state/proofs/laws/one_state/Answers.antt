use Rattle.sw_state.proofs.OneState.{one_state}
use Rattle.sw_state.proofs.laws.one_state.Goals as goal

pub returns : goal.returns
returns c = one_state
