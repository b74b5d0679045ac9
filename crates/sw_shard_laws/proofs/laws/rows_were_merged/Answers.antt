use Rattle.sw_shard_laws.proofs.Running.{rows-merged}
use Rattle.sw_shard_laws.proofs.laws.rows_were_merged.Goals as goal

pub returns : goal.returns
returns c = rows-merged
