use Rattle.sw_state.proofs.JoinLaws.{comes_again}
use Rattle.sw_state.proofs.laws.comes_again.Goals as goal

pub returns : goal.returns
returns c = comes_again
