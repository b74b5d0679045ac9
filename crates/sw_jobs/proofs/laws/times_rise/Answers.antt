use Rattle.sw_jobs.proofs.Rising.{times-rise}
use Rattle.sw_jobs.proofs.laws.times_rise.Goals as goal

pub returns : goal.returns
returns c = times-rise
