use Rattle.sw_held_laws.proofs.Ending.{settled-hold}
use Rattle.sw_held_laws.proofs.laws.settled_containers_hold_all.Goals as goal

pub returns : goal.returns
returns c = settled-hold
