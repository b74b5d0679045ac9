use Rattle.sw_point_laws.proofs.Ending.{points-hold-over-runs}
use Rattle.sw_point_laws.proofs.laws.points_hold_over_runs.Goals as goal

pub returns : goal.returns
returns c = points-hold-over-runs
