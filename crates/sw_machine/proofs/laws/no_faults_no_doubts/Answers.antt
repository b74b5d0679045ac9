use Rattle.sw_machine.proofs.Entering.{hashes-calm, places-calm}
use Rattle.sw_machine.proofs.laws.no_faults_no_doubts.Goals as goal

pub returns-clause-objects : goal.returns-clause-objects
returns-clause-objects c = hashes-calm

pub returns-clause-containers : goal.returns-clause-containers
returns-clause-containers c = places-calm
