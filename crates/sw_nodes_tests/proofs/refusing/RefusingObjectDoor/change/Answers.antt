use Rattle.sw_nodes_tests.proofs.Silences.{answered-call}
use Rattle.sw_nodes_tests.proofs.refusing.RefusingObjectDoor.change.Goals as goal

pub returns-clause-made : goal.returns-clause-made
returns-clause-made c = rw c.answer.ensures (answered-call c.args._link c.args._device c.args._name.now c.args.change c.args.self.now.has_writes)
