use Rattle.sw_disk.proofs.Lives.{outlasts}
use Rattle.sw_disk.proofs.laws.calls_are_outlasted.Goals as goal

pub returns : goal.returns
returns c = outlasts
