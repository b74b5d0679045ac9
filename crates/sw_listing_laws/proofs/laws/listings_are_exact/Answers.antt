use Rattle.sw_listing_laws.proofs.LiveRows.{live-rows-there}
use Rattle.sw_listing_laws.proofs.Listed.{listings-exact, settled-lists}
use Rattle.sw_listing_laws.proofs.laws.listings_are_exact.Goals as goal

pub returns-clause-lists : goal.returns-clause-lists
returns-clause-lists c = settled-lists

pub returns-clause-comes : goal.returns-clause-comes
returns-clause-comes c = listings-exact

pub returns-clause-there : goal.returns-clause-there
returns-clause-there c = live-rows-there
