use Rattle.sw_shard_laws.proofs.Running.{emptied-served}
use Rattle.sw_shard_laws.proofs.laws.emptied_is_served.Goals as goal

pub returns : goal.returns
returns c = emptied-served
