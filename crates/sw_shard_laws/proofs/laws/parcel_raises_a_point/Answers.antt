use Rattle.sw_shard_laws.proofs.Going.{parcel-raises}
use Rattle.sw_shard_laws.proofs.laws.parcel_raises_a_point.Goals as goal

pub returns : goal.returns
returns c = parcel-raises
