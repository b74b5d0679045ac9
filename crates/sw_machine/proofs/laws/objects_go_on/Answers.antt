use Rattle.sw_machine.proofs.Doors.{files-reads, hashes-reads, object-changes, object-reads, write-reads}
use Rattle.sw_machine.proofs.laws.objects_go_on.Goals as goal

pub returns-clause-changes : goal.returns-clause-changes
returns-clause-changes c = object-changes

pub returns-clause-reads : goal.returns-clause-reads
returns-clause-reads c = object-reads

pub returns-clause-hashes : goal.returns-clause-hashes
returns-clause-hashes c = hashes-reads

pub returns-clause-files : goal.returns-clause-files
returns-clause-files c = files-reads

pub returns-clause-write : goal.returns-clause-write
returns-clause-write c = write-reads
