use Rattle.std.proofs.Common.{[]}
use Rattle.sw_core.specs.Listing.{AllTell, AreCalm, AreLookedAt, IsPathAmong}
use Rattle.sw_hashdir.specs.Walks.{Adds}
use Rattle.sw_core.proofs.world.listing.files_in.Given as goal

abbrev pub invariant-loop-at : goal.invariant-loop-at
invariant-loop-at g l = record {
  looked : AreLookedAt g.V.Volume.tells g.V.Volume.holds g.V.Volume.faults l.first l.at l.fn.places.items l.places.items;
  paths : AllTell g.V.Volume.tells l.first l.at l.fn.places.items → Adds [] l.found (IsPathAmong g.V.Volume.holds l.first l.at l.fn.places.items);
  calm : AreCalm g.V.Volume.tells g.V.Volume.holds g.V.Volume.faults l.fn.places.items l.places.items;
}
