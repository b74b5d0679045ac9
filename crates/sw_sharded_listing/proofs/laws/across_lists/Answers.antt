use Rattle.sw_sharded_listing.proofs.Whole.{across-lists}
use Rattle.sw_sharded_listing.proofs.laws.across_lists.Goals as goal

pub returns : goal.returns
returns c = across-lists
