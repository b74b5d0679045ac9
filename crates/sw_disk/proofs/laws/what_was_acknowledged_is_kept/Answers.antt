use Rattle.sw_disk.proofs.Lives.{acknowledged-is-kept}
use Rattle.sw_disk.proofs.laws.what_was_acknowledged_is_kept.Goals as goal

pub returns : goal.returns
returns c = acknowledged-is-kept
