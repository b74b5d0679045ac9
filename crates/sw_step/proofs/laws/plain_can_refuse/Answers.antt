use Rattle.sw_step.proofs.Plain.{can-refuse}
use Rattle.sw_step.proofs.laws.plain_can_refuse.Goals as goal

pub returns : goal.returns
returns g c = λ r. can-refuse r
