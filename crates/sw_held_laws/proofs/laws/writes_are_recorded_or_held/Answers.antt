use Rattle.sw_held_laws.proofs.Ending.{recorded-or-held}
use Rattle.sw_held_laws.proofs.laws.writes_are_recorded_or_held.Goals as goal

pub returns : goal.returns
returns c = recorded-or-held
