use Rattle.sw_point_laws.proofs.Ending.{acknowledged-is-held, taken-is-held}
use Rattle.sw_point_laws.proofs.laws.acknowledged_is_held.Goals as goal

pub returns-clause-taken : goal.returns-clause-taken
returns-clause-taken c = taken-is-held

pub returns-clause-acknowledged : goal.returns-clause-acknowledged
returns-clause-acknowledged c = acknowledged-is-held
