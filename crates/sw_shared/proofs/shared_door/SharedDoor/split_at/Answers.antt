use Rattle.std.proofs.Common.{◌≡◌, map, Some, slice_set, sym, ◌∙◌, ap}
use Rattle.std.proofs.lemmas.Option.{slice_get-map}
use Rattle.std.specs.List.{slice_get}
use Rattle.std.specs.Option.{option_map}
use Rattle.sw_shared.proofs.Placing.{changed, lane-at, lane-seen, nodes-over, still-over, view-at}
use Rattle.sw_shared.proofs.Turning.{seen-stays}
use Rattle.sw_shared.specs.Turning.{ObjView}
use Rattle.sw_shared.proofs.shared_door.SharedDoor.split_at.Goals as goal

pub split-requires : goal.split-requires
split-requires g c =
    let v = g.V.Volume in let i = c.self.inside in let place = c.args.place in let a = c.index_mut.result.now in
    let within = rw (sym c.self.view_is) at c.requires.within in
    let at : slice_get i.lanes.items place ≡ Some a = lane-at v.tells v.holds v.faults i.lanes.items (λ l. l.pass.me.0)
    (λ l. l.pass.table_id) i.devices i.lock_bits i.power i.secrets.value i.asks place a within c.index_mut.ensures.value in
    record {
      two = (rw (sym c.self.view_is) at c.requires.two) a.pass.me.0 (view-at v.tells v.holds v.faults i.lanes.items (λ l. l.pass.me.0)
          (λ l. l.pass.table_id) i.devices i.lock_bits i.power i.secrets.value i.asks place a at);
    }

pub invariant_of-self : goal.invariant_of-self
invariant_of-self g c =
    let v = g.V.Volume in let i = c.self.inside in let place = c.args.place in let a = c.index_mut.result.now in
    let within = rw (sym c.self.view_is) at c.requires.within in
    let at : slice_get i.lanes.items place ≡ Some a = lane-at v.tells v.holds v.faults i.lanes.items (λ l. l.pass.me.0)
    (λ l. l.pass.table_id) i.devices i.lock_bits i.power i.secrets.value i.asks place a within c.index_mut.ensures.value in
    still-over v.tells v.holds v.faults i.lanes.items (λ l. l.pass.me.0) (λ l. l.pass.table_id) i.devices i.lock_bits i.power
    i.secrets.value i.asks c.self.invariant place a c.split.new.self at c.split.ensures.lock.0
    (seen-stays v.tells v.holds v.faults i.secrets.value i.power a.pass.me.0 c.split.new.self.pass.me.0
    (lane-seen v.tells v.holds v.faults i.lanes.items (λ l. l.pass.me.0) (λ l. l.pass.table_id) i.devices i.lock_bits i.power
    i.secrets.value i.asks c.self.invariant place a at) (ap (λ m. m.0.known) c.split.ensures.mine))

pub returns-clause-lock : goal.returns-clause-lock
returns-clause-lock g c =
    let v = g.V.Volume in let i = c.self.inside in let place = c.args.place in let a = c.index_mut.result.now in
    let within = rw (sym c.self.view_is) at c.requires.within in
    let at : slice_get i.lanes.items place ≡ Some a = lane-at v.tells v.holds v.faults i.lanes.items (λ l. l.pass.me.0)
    (λ l. l.pass.table_id) i.devices i.lock_bits i.power i.secrets.value i.asks place a within c.index_mut.ensures.value in
    let id-at : slice_get (map (λ l. l.pass.table_id) i.lanes.items) place ≡ Some a.pass.table_id =
    slice_get-map (λ l. l.pass.table_id) i.lanes.items place ∙ ap (option_map (λ l. l.pass.table_id)) at in
    rw (sym c.self.view_is) (id-at ∙ ap Some (sym c.split.ensures.lock.1))

pub returns-clause-parted : goal.returns-clause-parted
returns-clause-parted g c =
    let v = g.V.Volume in let i = c.self.inside in let place = c.args.place in let a = c.index_mut.result.now in
    let within = rw (sym c.self.view_is) at c.requires.within in
    let at : slice_get i.lanes.items place ≡ Some a = lane-at v.tells v.holds v.faults i.lanes.items (λ l. l.pass.me.0)
    (λ l. l.pass.table_id) i.devices i.lock_bits i.power i.secrets.value i.asks place a within c.index_mut.ensures.value in
    let left = changed v.tells v.holds v.faults i.lanes.items (λ l. l.pass.me.0) (λ l. l.pass.table_id) i.devices i.lock_bits i.power
    i.secrets.value i.asks place a c.split.new.self at c.split.ensures.lock.0 in
    rw (sym c.self.view_is) (
      a.pass.me.0,
      view-at v.tells v.holds v.faults i.lanes.items (λ l. l.pass.me.0) (λ l. l.pass.table_id) i.devices i.lock_bits i.power
          i.secrets.value i.asks place a at,
      left ∙ ap (λ (x : ObjView _). record (nodes-over v.tells v.holds v.faults i.lanes.items (λ l. l.pass.me.0)
          (λ l. l.pass.table_id) i.devices i.lock_bits i.power i.secrets.value i.asks i.lanes.items)
          { lanes = slice_set (map (λ l. l.pass.me.0) i.lanes.items) place x }) (ap (λ m. m.0) c.split.ensures.mine),
      c.split.ensures.given,
    )
