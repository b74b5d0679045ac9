use Rattle.sw_state.proofs.StateLaws.{joins_lists}
use Rattle.sw_state.proofs.laws.joins_lists.Goals as goal

pub returns : goal.returns
returns c = joins_lists
