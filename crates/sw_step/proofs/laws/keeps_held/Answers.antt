use Rattle.sw_step.proofs.Keeping.{keeps-held}
use Rattle.sw_step.proofs.laws.keeps_held.Goals as goal

pub returns : goal.returns
returns g c = λ r. keeps-held r
