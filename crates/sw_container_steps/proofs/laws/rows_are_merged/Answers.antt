use Rattle.sw_container_steps.proofs.Leaving.{rows-are-merged}
use Rattle.sw_container_steps.proofs.laws.rows_are_merged.Goals as goal

pub returns : goal.returns
returns c = rows-are-merged
