use Rattle.sw_steps.proofs.UpdateRunning.{updates_run}
use Rattle.sw_steps.proofs.laws.updates_run.Goals as goal

pub returns : goal.returns
returns c = updates_run
