use Rattle.sw_steps.proofs.Exchanging as proofs
use Rattle.sw_steps.proofs.laws.steps_meet.Goals as goal

pub returns : goal.returns
returns c = proofs.steps_meet
