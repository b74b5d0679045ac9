use Rattle.sw_jobs.proofs.Standing.{names-are-good}
use Rattle.sw_jobs.proofs.laws.names_are_good.Goals as goal

pub returns : goal.returns
returns c = names-are-good
