use Rattle.sw_shard_range.proofs.Indexes.{names-differ}
use Rattle.sw_shard_range.proofs.laws.shard_names_differ.Goals as goal

pub returns : goal.returns
returns c = names-differ
