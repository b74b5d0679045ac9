use Rattle.sw_steps.proofs.Running as proofs
use Rattle.sw_steps.proofs.laws.pushing_runs.Goals as goal

pub returns : goal.returns
returns c = proofs.pushing_runs
