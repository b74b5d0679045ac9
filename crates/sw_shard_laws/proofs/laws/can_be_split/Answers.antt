use Rattle.sw_shard_laws.proofs.Splitting.{can-be-split}
use Rattle.sw_shard_laws.proofs.laws.can_be_split.Goals as goal

pub returns : goal.returns
returns c = can-be-split
