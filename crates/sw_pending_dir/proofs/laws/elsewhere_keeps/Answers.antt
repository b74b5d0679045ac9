use Rattle.sw_pending_dir.proofs.Stepping.{elsewhere_keeps}
use Rattle.sw_pending_dir.proofs.laws.elsewhere_keeps.Goals as goal

pub returns : goal.returns
returns c = elsewhere_keeps
