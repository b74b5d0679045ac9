use Rattle.sw_shard_laws.proofs.Running.{merged-held}
use Rattle.sw_shard_laws.proofs.laws.merged_is_held.Goals as goal

pub returns : goal.returns
returns c = merged-held
