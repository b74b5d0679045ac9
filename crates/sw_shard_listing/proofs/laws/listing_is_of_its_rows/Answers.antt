use Rattle.sw_shard_listing.proofs.Showing.{of-its-rows}
use Rattle.sw_shard_listing.proofs.laws.listing_is_of_its_rows.Goals as goal

pub returns : goal.returns
returns c = of-its-rows
