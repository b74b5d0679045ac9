use Rattle.sw_machine.proofs.Runs.{hashes-may-stand, places-may-stand}
use Rattle.sw_machine.proofs.laws.locks_may_stand.Goals as goal

pub returns-clause-objects : goal.returns-clause-objects
returns-clause-objects c = hashes-may-stand

pub returns-clause-containers : goal.returns-clause-containers
returns-clause-containers c = places-may-stand
