use Rattle.sw_jobs.proofs.Turns.{numbers-rise}
use Rattle.sw_jobs.proofs.laws.numbers_rise.Goals as goal

pub returns : goal.returns
returns c = numbers-rise
