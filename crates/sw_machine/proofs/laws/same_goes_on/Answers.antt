use Rattle.sw_machine.proofs.Going.{same-goes}
use Rattle.sw_machine.proofs.laws.same_goes_on.Goals as goal

pub returns : goal.returns
returns c = same-goes
