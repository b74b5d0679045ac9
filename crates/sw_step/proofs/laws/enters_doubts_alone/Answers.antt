use Rattle.sw_step.proofs.Settled.{enters}
use Rattle.sw_step.proofs.laws.enters_doubts_alone.Goals as goal

pub returns : goal.returns
returns g c = λ r. enters r
