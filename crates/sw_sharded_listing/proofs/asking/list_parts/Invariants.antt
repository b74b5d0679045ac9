-- whatever comes of the parts that are left makes the whole
use Rattle.std.proofs.Common.{◌≡◌, drop}
use Rattle.sw_peer.specs.Sights.{Sight}
use Rattle.sw_sharded_listing.specs.Across.{AreAllListed, AreListed, Listing, preceded}
use Rattle.sw_sharded_listing.specs.Parts.{parts_in}
use Rattle.sw_sharded_listing.proofs.asking.list_parts.Given as goal

abbrev pub invariant-loop-index : goal.invariant-loop-index
invariant-loop-index g l =
    let s = g.D.Door.sight in
    record {
      lists : (later : Listing) (new : Sight) → AreListed l.asked (drop l.index (parts_in l.split)) (s l.door) later new
          → AreAllListed l.query (parts_in l.split) (s l.initial.door) (preceded l.found.items later) new;
      nodes : (s l.door).nodes ≡ (s l.initial.door).nodes;
      asks : (s l.door).asks ≡ (s l.initial.door).asks;
    }
