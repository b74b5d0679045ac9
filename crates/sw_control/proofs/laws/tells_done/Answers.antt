use Rattle.sw_control.proofs.ToldOutcomes.{tells_done}
use Rattle.sw_control.proofs.laws.tells_done.Goals as goal

pub returns : goal.returns
returns c = tells_done
