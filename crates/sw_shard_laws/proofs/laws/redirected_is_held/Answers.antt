use Rattle.sw_shard_laws.proofs.Running.{redirected-held}
use Rattle.sw_shard_laws.proofs.laws.redirected_is_held.Goals as goal

pub returns : goal.returns
returns c = redirected-held
