use Rattle.sw_control.proofs.OneControl.{asks_for_one}
use Rattle.sw_control.proofs.laws.asks_for_one.Goals as goal

pub returns : goal.returns
returns c = asks_for_one
