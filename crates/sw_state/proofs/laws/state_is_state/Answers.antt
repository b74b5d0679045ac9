use Rattle.sw_state.proofs.StateOf.{is_state}
use Rattle.sw_state.proofs.laws.state_is_state.Goals as goal

pub returns : goal.returns
returns c = is_state
