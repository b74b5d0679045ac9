use Rattle.sw_machine.proofs.Entering.{lines-tell-hashes, lines-tell-places}
use Rattle.sw_machine.proofs.laws.lines_tell.Goals as goal

pub returns-clause-objects : goal.returns-clause-objects
returns-clause-objects c = lines-tell-hashes

pub returns-clause-containers : goal.returns-clause-containers
returns-clause-containers c = lines-tell-places
