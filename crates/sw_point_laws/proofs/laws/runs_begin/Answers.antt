use Rattle.sw_point_laws.proofs.Ending.{runs-begin}
use Rattle.sw_point_laws.proofs.laws.runs_begin.Goals as goal

pub returns : goal.returns
returns c = runs-begin
