use Rattle.sw_nodes_tests.proofs.Silences.{missed-call}
use Rattle.sw_nodes_tests.proofs.refusing.RefusingObjectDoor.get.Goals as goal

pub returns-clause-read : goal.returns-clause-read
returns-clause-read c = missed-call c.args._link c.args._device c.args._name.now
