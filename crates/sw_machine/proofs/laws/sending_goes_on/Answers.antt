use Rattle.sw_machine.proofs.Going.{sending-goes}
use Rattle.sw_machine.proofs.laws.sending_goes_on.Goals as goal

pub returns : goal.returns
returns c = sending-goes
