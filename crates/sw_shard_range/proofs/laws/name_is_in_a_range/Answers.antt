use Rattle.sw_shard_range.proofs.Tiling.{is-in-a-range}
use Rattle.sw_shard_range.proofs.laws.name_is_in_a_range.Goals as goal

pub returns : goal.returns
returns c = is-in-a-range
