use Rattle.sw_sharded_listing.proofs.OneReading.{trails-tell-one}
use Rattle.sw_sharded_listing.proofs.laws.trails_tell_one.Goals as goal

pub returns : goal.returns
returns c = trails-tell-one
