use Rattle.sw_pending_dir.proofs.Standing.{what_stands_is_of_key}
use Rattle.sw_pending_dir.proofs.laws.what_stands_is_of_key.Goals as goal

pub returns : goal.returns
returns c = what_stands_is_of_key
