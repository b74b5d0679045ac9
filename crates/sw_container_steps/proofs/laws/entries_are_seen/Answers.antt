use Rattle.sw_container_steps.proofs.Seeing.{entries-are-seen}
use Rattle.sw_container_steps.proofs.laws.entries_are_seen.Goals as goal

pub returns : goal.returns
returns c = entries-are-seen
