use Rattle.sw_across_laws.proofs.Unsplit.{shards-unsplit}
use Rattle.sw_across_laws.proofs.laws.shards_are_unsplit.Goals as goal

pub returns : goal.returns
returns c = shards-unsplit
