use Rattle.sw_listing_laws.proofs.Showing.{settled-shows}
use Rattle.sw_listing_laws.proofs.laws.settled_containers_show_exactly.Goals as goal

pub returns : goal.returns
returns c = settled-shows
