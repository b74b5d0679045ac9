use Rattle.sw_machine.proofs.Runs.{hashes-are-told, places-are-told}
use Rattle.sw_machine.proofs.laws.without_doubts_told.Goals as goal

pub returns-clause-objects : goal.returns-clause-objects
returns-clause-objects c = hashes-are-told

pub returns-clause-containers : goal.returns-clause-containers
returns-clause-containers c = places-are-told
