use Rattle.std.proofs.Common.{◌≡◌, map, Some, slice_set, sym, ◌∙◌, ap, subst}
use Rattle.std.proofs.lemmas.Option.{slice_get-map}
use Rattle.std.specs.List.{slice_get}
use Rattle.std.specs.Option.{option_map}
use Rattle.sw_shared.proofs.Placing.{changed, lane-at, lane-seen, nodes-over, still-over, view-at}
use Rattle.sw_shared.proofs.Turning.{seen-joins, some-same}
use Rattle.sw_shared.specs.Turning.{ObjView}
use Rattle.sw_turn.specs.Known.{Grows}
use Rattle.sw_shared.proofs.shared_door.SharedDoor.join_at.Goals as goal

pub join-requires : goal.join-requires
join-requires g c =
    let v = g.V.Volume in let i = c.self.inside in let place = c.args.place in let a = c.index_mut.result.now in
    let within = rw (sym c.self.view_is) at c.requires.within in
    let at : slice_get i.lanes.items place ≡ Some a = lane-at v.tells v.holds v.faults i.lanes.items (λ l. l.pass.me.0)
    (λ l. l.pass.table_id) i.devices i.lock_bits i.power i.secrets.value i.asks place a within c.index_mut.ensures.value in
    let id-at : slice_get (map (λ l. l.pass.table_id) i.lanes.items) place ≡ Some a.pass.table_id =
    slice_get-map (λ l. l.pass.table_id) i.lanes.items place ∙ ap (option_map (λ l. l.pass.table_id)) at in
    record { lock = some-same c.args.other.pass.table_id a.pass.table_id (sym (rw (sym c.self.view_is) at c.requires.lock) ∙ id-at) }

pub invariant_of-self : goal.invariant_of-self
invariant_of-self g c =
    let v = g.V.Volume in let i = c.self.inside in let place = c.args.place in let a = c.index_mut.result.now in
    let within = rw (sym c.self.view_is) at c.requires.within in
    let at : slice_get i.lanes.items place ≡ Some a = lane-at v.tells v.holds v.faults i.lanes.items (λ l. l.pass.me.0)
    (λ l. l.pass.table_id) i.devices i.lock_bits i.power i.secrets.value i.asks place a within c.index_mut.ensures.value in
    still-over v.tells v.holds v.faults i.lanes.items (λ l. l.pass.me.0) (λ l. l.pass.table_id) i.devices i.lock_bits i.power
    i.secrets.value i.asks c.self.invariant place a c.join.new.self at c.join.ensures.lock
    (seen-joins v.tells v.holds v.faults i.secrets.value i.power a.pass.me.0 c.args.other.pass.me.0 c.join.new.self.pass.me.0
    (lane-seen v.tells v.holds v.faults i.lanes.items (λ l. l.pass.me.0) (λ l. l.pass.table_id) i.devices i.lock_bits i.power
    i.secrets.value i.asks c.self.invariant place a at)
    (rw (sym c.self.view_is) at c.requires.seen) (ap (λ m. m.0.known) c.join.ensures.both))

pub returns : goal.returns
returns g c =
    let v = g.V.Volume in let i = c.self.inside in let place = c.args.place in let a = c.index_mut.result.now in
    let within = rw (sym c.self.view_is) at c.requires.within in
    let at : slice_get i.lanes.items place ≡ Some a = lane-at v.tells v.holds v.faults i.lanes.items (λ l. l.pass.me.0)
    (λ l. l.pass.table_id) i.devices i.lock_bits i.power i.secrets.value i.asks place a within c.index_mut.ensures.value in
    let e = c.join.ensures in let both = ap (λ m. m.0) e.both in
    let known = ap (λ m. m.0.known) e.both in
    let left = changed v.tells v.holds v.faults i.lanes.items (λ l. l.pass.me.0) (λ l. l.pass.table_id) i.devices i.lock_bits i.power
    i.secrets.value i.asks place a c.join.new.self at e.lock in
    record {
      joined = rw (sym c.self.view_is) (
        a.pass.me.0,
        view-at v.tells v.holds v.faults i.lanes.items (λ l. l.pass.me.0) (λ l. l.pass.table_id) i.devices i.lock_bits i.power
            i.secrets.value i.asks place a at,
        left ∙ ap (λ (x : ObjView _). record (nodes-over v.tells v.holds v.faults i.lanes.items (λ l. l.pass.me.0)
            (λ l. l.pass.table_id) i.devices i.lock_bits i.power i.secrets.value i.asks i.lanes.items)
            { lanes = slice_set (map (λ l. l.pass.me.0) i.lanes.items) place x }) both,
        subst (λ k. Grows a.pass.me.0.seats a.pass.me.0.numbers a.pass.me.0.known k) known e.mine,
        subst (λ k. Grows a.pass.me.0.seats c.args.other.pass.me.0.numbers c.args.other.pass.me.0.known k) known e.theirs,
      );
    }
