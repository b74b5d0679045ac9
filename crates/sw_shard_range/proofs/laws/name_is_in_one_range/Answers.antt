use Rattle.sw_shard_range.proofs.Tiling.{is-in-one-range}
use Rattle.sw_shard_range.proofs.laws.name_is_in_one_range.Goals as goal

pub returns : goal.returns
returns c = is-in-one-range
