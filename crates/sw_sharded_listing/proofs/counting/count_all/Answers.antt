use Rattle.std.proofs.Common.{◌≡◌, ◌∙◌, List, map, refl, subst, sym, true, Ok}
use Rattle.std.proofs.lemmas.List.{drop_all}
use Rattle.sw_peer.specs.Sights.{Sight}
use Rattle.sw_shard_range.specs.declared.range.Range.{Range}
use Rattle.sw_sharded_listing.proofs.Places.{place-at}
use Rattle.sw_sharded_listing.proofs.Summing.{counted-err, counted-ok, shards-ended, shards-more}
use Rattle.sw_sharded_listing.specs.Counts.{AreCounted, Count, shard_site, sites_of}
use Rattle.sw_sharded_listing.proofs.counting.count_all.Goals as goal

pub returns-in-Err-clause-counts : goal.returns-in-Err-clause-counts
returns-in-Err-clause-counts g c =
    let s = g.D.Door.sight in
    counted-err c.args.device c.args.place.now (map (shard_site c.args.ring.now c.args.replica) c.args.served.now) (0, 0) (s c.args.door.now) c.in-Err.answer
    (s c.count_at.new.door) c.in-Err.ensures.adds

pub loop-range-init : goal.loop-range-init
loop-range-init g c =
    let s = g.D.Door.sight in
    record {
      counts = counted-ok c.args.device c.args.place.now (map (shard_site c.args.ring.now c.args.replica) c.args.served.now) (0, 0) (s c.args.door.now)
          c.in-Ok.sums (s c.count_at.new.door) c.in-Ok.ensures.adds;
      nodes = c.in-Ok.ensures.nodes;
      asks = c.in-Ok.ensures.asks;
    }

pub count_at-requires-in-loop-range-clause-fits : goal.count_at-requires-in-loop-range-clause-fits
count_at-requires-in-loop-range-clause-fits g c =
    let s = g.D.Door.sight in
    subst (λ (n : _). n.fits_place c.range-item.result.shard ≡ true) (sym c.loop-range.invariant.nodes)
    (c.requires.nodes.placed c.range-item.result.shard
    (place-at c.args.ring.now.secrets c.args.served.now c.loop-range.range-index c.range-item.result c.requires.placed c.loop-range-test.true
    c.range-item.is))

pub returns-in-Err-count_at-clause-counts : goal.returns-in-Err-count_at-clause-counts
returns-in-Err-count_at-clause-counts g c =
    let s = g.D.Door.sight in
    shards-ended c.args.ring.now c.args.replica c.args.served.now
    (λ (later : Count) (new : Sight). AreCounted (sites_of c.args.ring.now c.args.device c.args.place.now c.args.replica c.args.served.now) (0, 0)
    (s c.args.door.now) later new)
    c.loop-range.range-index c.range-item.result c.replica_at-at.result c.loop-range.sums (s c.loop-range.door) c.loop-range-test.true c.range-item.is
    c.replica_at-at.ensures.value c.loop-range.invariant.counts c.in-Err-count_at.answer (s c.count_at-in-loop-range.new.door)
    c.in-Err-count_at.ensures.adds

pub loop-range-preserved : goal.loop-range-preserved
loop-range-preserved g c =
    let s = g.D.Door.sight in
    record {
      counts = shards-more c.args.ring.now c.args.replica c.args.served.now
          (λ (later : Count) (new : Sight). AreCounted (sites_of c.args.ring.now c.args.device c.args.place.now c.args.replica c.args.served.now) (0, 0)
          (s c.args.door.now) later new)
          c.loop-range.range-index c.range-item.result c.replica_at-at.result c.loop-range.sums (s c.loop-range.door) c.loop-range-test.true c.range-item.is
          c.replica_at-at.ensures.value c.loop-range.invariant.counts c.in-Ok-count_at.sums (s c.count_at-in-loop-range.new.door)
          c.in-Ok-count_at.ensures.adds;
      nodes = c.in-Ok-count_at.ensures.nodes ∙ c.loop-range.invariant.nodes;
      asks = c.in-Ok-count_at.ensures.asks ∙ c.loop-range.invariant.asks;
    }

pub returns-clause-counts : goal.returns-clause-counts
returns-clause-counts g c =
    let s = g.D.Door.sight in
    c.loop-range.invariant.counts (Ok c.loop-range.sums) (s c.loop-range.door)
    (subst (λ (rs : List Range). AreCounted (map (shard_site c.args.ring.now c.args.replica) rs) c.loop-range.sums (s c.loop-range.door)
    (Ok c.loop-range.sums) (s c.loop-range.door)) (sym (drop_all c.loop-range.range-index c.args.served.now c.loop-range-test.false)) (refl, refl))
