use Rattle.sw_state.proofs.StateLaws.{associates}
use Rattle.sw_state.proofs.laws.join_associates.Goals as goal

pub returns : goal.returns
returns c = associates
