use Rattle.sw_split_steps.proofs.Passing.{steps-are-changes}
use Rattle.sw_split_steps.proofs.laws.steps_are_changes.Goals as goal

pub returns : goal.returns
returns c = steps-are-changes
