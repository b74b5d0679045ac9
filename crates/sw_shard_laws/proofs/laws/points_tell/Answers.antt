use Rattle.sw_shard_laws.proofs.Running.{points-tell}
use Rattle.sw_shard_laws.proofs.laws.points_tell.Goals as goal

pub returns : goal.returns
returns c = points-tell
