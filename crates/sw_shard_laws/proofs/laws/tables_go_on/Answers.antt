use Rattle.sw_shard_laws.proofs.Going.{tables-go-on}
use Rattle.sw_shard_laws.proofs.laws.tables_go_on.Goals as goal

pub returns : goal.returns
returns c = tables-go-on
