use Rattle.sw_point_laws.proofs.Ending.{held-stays-held}
use Rattle.sw_point_laws.proofs.laws.held_stays_held.Goals as goal

pub returns : goal.returns
returns c = held-stays-held
