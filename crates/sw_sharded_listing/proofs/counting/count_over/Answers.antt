use Rattle.sw_sharded_listing.proofs.Summing.{counted-next}
use Rattle.sw_sharded_listing.proofs.counting.count_over.Goals as goal

pub returns-clause-counts : goal.returns-clause-counts
returns-clause-counts g c =
    let s = g.D.Door.sight in
    counted-next c.args.ring.now c.args.device c.args.place.now c.args.replica c.args.sharding.now c.served_of-served.result.now c.are_places.result
    (s c.args.door.now) c.count_all.result (s c.count_all.new.door) c.served_of-served.ensures c.are_places.ensures c.if-not-are_places.false
    c.count_all.ensures.counts
