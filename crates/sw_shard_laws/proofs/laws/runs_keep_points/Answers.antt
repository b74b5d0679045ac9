use Rattle.sw_shard_laws.proofs.Running.{runs-keep}
use Rattle.sw_shard_laws.proofs.laws.runs_keep_points.Goals as goal

pub returns : goal.returns
returns c = runs-keep
