use Rattle.sw_machine.proofs.Runs.{rows-are-merged}
use Rattle.sw_machine.proofs.laws.rows_are_merged.Goals as goal

pub returns : goal.returns
returns c = rows-are-merged
