use Rattle.sw_pending_dir.proofs.Standing.{one_reading}
use Rattle.sw_pending_dir.proofs.laws.one_reading.Goals as goal

pub returns : goal.returns
returns c = one_reading
