use Rattle.sw_shard_laws.proofs.Running.{changes-keep}
use Rattle.sw_shard_laws.proofs.laws.changes_keep_points.Goals as goal

pub returns : goal.returns
returns c = changes-keep
