use Rattle.sw_step.proofs.Keeping.{keeps-others}
use Rattle.sw_step.proofs.laws.keeps_others.Goals as goal

pub returns : goal.returns
returns g c = λ r. keeps-others r
