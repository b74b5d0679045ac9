use Rattle.sw_shard_laws.proofs.Running.{shards-made}
use Rattle.sw_shard_laws.proofs.laws.shards_are_made.Goals as goal

pub returns : goal.returns
returns c = shards-made
