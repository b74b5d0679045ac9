use Rattle.sw_pending_dir.proofs.Stepping.{objects_stay}
use Rattle.sw_pending_dir.proofs.laws.objects_stay.Goals as goal

pub returns : goal.returns
returns c = objects_stay
