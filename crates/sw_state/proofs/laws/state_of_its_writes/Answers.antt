use Rattle.sw_state.proofs.StateLaws.{state_of-writes_of}
use Rattle.sw_state.proofs.laws.state_of_its_writes.Goals as goal

pub returns : goal.returns
returns c = state_of-writes_of
