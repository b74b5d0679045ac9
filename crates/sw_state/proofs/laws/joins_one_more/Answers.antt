use Rattle.sw_state.proofs.StateLaws.{joins_one_more}
use Rattle.sw_state.proofs.laws.joins_one_more.Goals as goal

pub returns : goal.returns
returns c = joins_one_more
