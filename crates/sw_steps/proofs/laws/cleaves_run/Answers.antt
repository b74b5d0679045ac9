use Rattle.sw_steps.proofs.CleaveRunning.{cleaves_run}
use Rattle.sw_steps.proofs.laws.cleaves_run.Goals as goal

pub returns : goal.returns
returns c = cleaves_run
