use Rattle.sw_steps.proofs.CreationRunning.{creations_run}
use Rattle.sw_steps.proofs.laws.creations_run.Goals as goal

pub returns : goal.returns
returns c = creations_run
