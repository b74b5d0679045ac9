use Rattle.sw_core.proofs.Placed.{device-of}
use Rattle.sw_steps.proofs.laws.worlds_are_apart.Goals as goal

pub returns : goal.returns
returns c = λ devices lock_bits power secrets d e part other same. device-of lock_bits power d e part other same
