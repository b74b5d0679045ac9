use Rattle.sw_state.proofs.StateTests.{new_changes}
use Rattle.sw_state.proofs.laws.new_changes.Goals as goal

pub returns : goal.returns
returns c = new_changes
