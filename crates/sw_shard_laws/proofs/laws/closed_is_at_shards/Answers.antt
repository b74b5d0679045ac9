use Rattle.sw_shard_laws.proofs.Running.{closed-at-shards}
use Rattle.sw_shard_laws.proofs.laws.closed_is_at_shards.Goals as goal

pub returns : goal.returns
returns c = closed-at-shards
