use Rattle.sw_step.proofs.Settled.{nothing}
use Rattle.sw_step.proofs.laws.nothing_to_settle.Goals as goal

pub returns : goal.returns
returns g c = λ r. nothing r
