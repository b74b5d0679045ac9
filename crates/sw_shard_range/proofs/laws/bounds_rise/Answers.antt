use Rattle.sw_shard_range.proofs.Live.{bounds-rise}
use Rattle.sw_shard_range.proofs.laws.bounds_rise.Goals as goal

pub returns : goal.returns
returns c = bounds-rise
