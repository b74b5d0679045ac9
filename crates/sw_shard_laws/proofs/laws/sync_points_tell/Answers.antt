use Rattle.sw_shard_laws.proofs.Running.{syncs-tell}
use Rattle.sw_shard_laws.proofs.laws.sync_points_tell.Goals as goal

pub returns : goal.returns
returns c = syncs-tell
