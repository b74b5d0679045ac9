use Rattle.sw_shard_laws.proofs.Running.{held-stays}
use Rattle.sw_shard_laws.proofs.laws.held_stays.Goals as goal

pub returns : goal.returns
returns c = held-stays
