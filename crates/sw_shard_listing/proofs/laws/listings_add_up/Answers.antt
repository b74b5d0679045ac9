use Rattle.sw_shard_listing.proofs.Splitting.{add-up}
use Rattle.sw_shard_listing.proofs.laws.listings_add_up.Goals as goal

pub returns : goal.returns
returns c = add-up
