use Rattle.sw_point_laws.proofs.Ending.{runs-begin-anew}
use Rattle.sw_point_laws.proofs.laws.runs_begin_anew.Goals as goal

pub returns : goal.returns
returns c = runs-begin-anew
