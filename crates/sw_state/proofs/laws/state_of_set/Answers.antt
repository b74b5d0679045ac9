use Rattle.sw_state.proofs.OneState.{state_of_set}
use Rattle.sw_state.proofs.laws.state_of_set.Goals as goal

pub returns : goal.returns
returns c = state_of_set
