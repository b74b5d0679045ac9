use Rattle.sw_shard_laws.proofs.Running.{hidden-stay}
use Rattle.sw_shard_laws.proofs.laws.hidden_rows_stay.Goals as goal

pub returns : goal.returns
returns c = hidden-stay
