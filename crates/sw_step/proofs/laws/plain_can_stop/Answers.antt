use Rattle.sw_step.proofs.Plain.{can-stop}
use Rattle.sw_step.proofs.laws.plain_can_stop.Goals as goal

pub returns : goal.returns
returns g c = λ r. can-stop r
