use Rattle.sw_step.proofs.Settled.{tell}
use Rattle.sw_step.proofs.laws.no_doubts_tell.Goals as goal

pub returns : goal.returns
returns g c = λ r. tell r
