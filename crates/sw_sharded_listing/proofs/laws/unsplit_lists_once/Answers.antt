use Rattle.sw_sharded_listing.proofs.Whole.{unsplit-lists-once}
use Rattle.sw_sharded_listing.proofs.laws.unsplit_lists_once.Goals as goal

pub returns : goal.returns
returns c = unsplit-lists-once
