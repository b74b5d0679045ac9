use Rattle.sw_steps.proofs.RowRunning.{row_pushes_run}
use Rattle.sw_steps.proofs.laws.row_pushes_run.Goals as goal

pub returns : goal.returns
returns c = row_pushes_run
