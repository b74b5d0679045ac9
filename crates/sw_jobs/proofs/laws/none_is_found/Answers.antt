use Rattle.sw_jobs.proofs.Turns.{none-is-found}
use Rattle.sw_jobs.proofs.laws.none_is_found.Goals as goal

pub returns : goal.returns
returns c = none-is-found
