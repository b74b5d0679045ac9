use Rattle.sw_step.proofs.Keeping.{keeps-its-key}
use Rattle.sw_step.proofs.laws.keeps_its_key.Goals as goal

pub returns : goal.returns
returns g c = λ r. keeps-its-key r
