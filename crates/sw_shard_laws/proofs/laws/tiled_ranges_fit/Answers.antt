use Rattle.sw_shard_laws.proofs.Serving.{tiled-fit}
use Rattle.sw_shard_laws.proofs.laws.tiled_ranges_fit.Goals as goal

pub returns : goal.returns
returns c = tiled-fit
