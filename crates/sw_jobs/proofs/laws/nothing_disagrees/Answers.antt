use Rattle.sw_jobs.proofs.Turns.{nothing-disagrees}
use Rattle.sw_jobs.proofs.laws.nothing_disagrees.Goals as goal

pub returns : goal.returns
returns c = nothing-disagrees
