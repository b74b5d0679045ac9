use Rattle.sw_container_steps.proofs.Placing.{entries-are-of-the-place}
use Rattle.sw_container_steps.proofs.laws.entries_are_of_the_place.Goals as goal

pub returns : goal.returns
returns c = entries-are-of-the-place
