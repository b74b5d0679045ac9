use Rattle.sw_step.proofs.Plain.{can-make}
use Rattle.sw_step.proofs.laws.plain_can_make.Goals as goal

pub returns : goal.returns
returns g c = λ r. can-make r
