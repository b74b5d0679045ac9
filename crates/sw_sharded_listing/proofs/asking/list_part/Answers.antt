use Rattle.std.proofs.Common.{ap, sym}
use Rattle.sw_listing.specs.declared.query.Query.{Query}
use Rattle.sw_sharded_listing.proofs.Asked.{part-listed, within-limit}
use Rattle.sw_sharded_listing.proofs.asking.list_part.Goals as goal

pub returns-clause-lists : goal.returns-clause-lists
returns-clause-lists g c =
    let s = g.D.Door.sight in
    part-listed c.args.query.now c.args.part.now _ c.in-Ok.asked (s c.args.door.now) c.list-listed.result c.unwrap.result (s c.list-listed.new.self)
    (sym c.part.view_is) c.in-Ok.ensures.value c.unwrap.ensures c.list-listed.ensures.read

pub returns-clause-within : goal.returns-clause-within
returns-clause-within g c =
    let s = g.D.Door.sight in
    within-limit c.part.inside.device c.part.inside.place.now c.in-Ok.asked c.args.query.now.limit (s c.args.door.now) c.list-listed.result c.unwrap.result
    (s c.list-listed.new.self) c.unwrap.ensures (ap (λ (q : Query). q.limit) c.in-Ok.ensures.value) c.list-listed.ensures.read
