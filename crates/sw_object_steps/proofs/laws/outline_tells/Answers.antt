use Rattle.sw_object_steps.proofs.Refusals.{outline_tells}
use Rattle.sw_object_steps.proofs.laws.outline_tells.Goals as goal

pub returns : goal.returns
returns c = outline_tells
