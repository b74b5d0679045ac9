use Rattle.sw_disk.proofs.Crashes.{each-is-left, leaves-path}
use Rattle.sw_disk.proofs.laws.crashes_leave_what_is_said.Goals as goal

pub returns-clause-paths : goal.returns-clause-paths
returns-clause-paths c = leaves-path

pub returns-clause-each : goal.returns-clause-each
returns-clause-each c = each-is-left
