use Rattle.sw_machine.proofs.Doors.{base-reads, records-reads}
use Rattle.sw_machine.proofs.laws.records_go_on.Goals as goal

pub returns-clause-records : goal.returns-clause-records
returns-clause-records c = records-reads

pub returns-clause-base : goal.returns-clause-base
returns-clause-base c = base-reads
