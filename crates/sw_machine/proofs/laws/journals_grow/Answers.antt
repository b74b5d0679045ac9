use Rattle.sw_machine.proofs.Entering.{journals-grow}
use Rattle.sw_machine.proofs.laws.journals_grow.Goals as goal

pub returns : goal.returns
returns c = journals-grow
