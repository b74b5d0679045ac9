use Rattle.sw_sharded_listing.proofs.Refusing.{refusals-are-few}
use Rattle.sw_sharded_listing.proofs.laws.refusals_are_few.Goals as goal

pub returns : goal.returns
returns c = refusals-are-few
