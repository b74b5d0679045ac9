use Rattle.sw_machine.proofs.Runs.{joins}
use Rattle.sw_machine.proofs.laws.runs_join.Goals as goal

pub returns : goal.returns
returns c = joins
