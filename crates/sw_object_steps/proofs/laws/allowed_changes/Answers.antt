use Rattle.sw_object_steps.proofs.Refusals.{allowed_changes}
use Rattle.sw_object_steps.proofs.laws.allowed_changes.Goals as goal

pub returns : goal.returns
returns c = allowed_changes
