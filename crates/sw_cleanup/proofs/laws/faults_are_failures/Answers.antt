use Rattle.sw_cleanup.proofs.Unlinking.{faults_are_failures}
use Rattle.sw_cleanup.proofs.laws.faults_are_failures.Goals as goal

pub returns : goal.returns
returns c = faults_are_failures
