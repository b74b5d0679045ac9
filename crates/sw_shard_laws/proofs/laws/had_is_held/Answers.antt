use Rattle.sw_shard_laws.proofs.Running.{had-held}
use Rattle.sw_shard_laws.proofs.laws.had_is_held.Goals as goal

pub returns : goal.returns
returns c = had-held
