use Rattle.sw_nodes_tests.proofs.Silences.{wanted-change}
use Rattle.sw_nodes_tests.proofs.refusing.RefusingContainerDoor.change_container.Goals as goal

pub returns-clause-made : goal.returns-clause-made
returns-clause-made c = wanted-change c.args._link c.args._device c.args._place.now c.args._change.now
