use Rattle.sw_container_steps.proofs.Seeing.{steps-hold}
use Rattle.sw_container_steps.proofs.laws.steps_hold.Goals as goal

pub returns : goal.returns
returns c = steps-hold
