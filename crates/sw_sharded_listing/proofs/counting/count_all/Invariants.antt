-- whatever comes of the shards that are left makes the whole
use Rattle.std.proofs.Common.{◌≡◌, drop, map}
use Rattle.sw_peer.specs.Sights.{Sight}
use Rattle.sw_sharded_listing.specs.Counts.{AreCounted, Count, shard_site, sites_of}
use Rattle.sw_sharded_listing.proofs.counting.count_all.Given as goal

abbrev pub invariant-loop-range : goal.invariant-loop-range
invariant-loop-range g l =
    let s = g.D.Door.sight in
    record {
      counts : (later : Count) (new : Sight) → AreCounted (map (shard_site l.ring l.replica) (drop l.range-index l.served)) l.sums (s l.door) later new
          → AreCounted (sites_of l.ring l.device l.place l.replica l.served) (0, 0) (s l.fn.door) later new;
      nodes : (s l.door).nodes ≡ (s l.fn.door).nodes;
      asks : (s l.door).asks ≡ (s l.fn.door).asks;
    }
