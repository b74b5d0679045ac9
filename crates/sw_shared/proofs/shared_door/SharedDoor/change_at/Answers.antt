use Rattle.std.proofs.Common.{◌≡◌, Some, sym, ◌∙◌, ap}
use Rattle.std.specs.List.{slice_get}
use Rattle.sw_core.proofs.Wholes.{hashed}
use Rattle.sw_core.specs.Worlds.{lock_of}
use Rattle.sw_hashdir.specs.Steps.{IsHashed}
use Rattle.sw_shared.proofs.Placing.{began-so, has-turn, lane-at, lane-seen, shared-after}
use Rattle.sw_shared.proofs.shared_door.SharedDoor.change_at.Goals as goal

pub change-requires : goal.change-requires
change-requires g c =
    let v = g.V.Volume in let i = c.self.inside in let place = c.lane_of-place.result in let a = c.index_mut.result.now in
    let within = rw (sym c.self.view_is) at c.lane_of-place.ensures.within in
    let at : slice_get i.lanes.items place ≡ Some a = lane-at v.tells v.holds v.faults i.lanes.items (λ l. l.pass.me.0)
    (λ l. l.pass.table_id) i.devices i.lock_bits i.power i.secrets.value i.asks place a within c.index_mut.ensures.value in
    record {
      hashed = began-so v.tells v.holds v.faults i.secrets.value i.power a.pass.me.0
          (lane-seen v.tells v.holds v.faults i.lanes.items (λ l. l.pass.me.0) (λ l. l.pass.table_id) i.devices i.lock_bits i.power i.secrets.value
          i.asks c.self.invariant place a at) (λ s p. IsHashed s c.args.name.now) (hashed i.secrets.value c.args.name.now
          (rw (sym c.self.view_is) at c.requires.fits));
    }

pub invariant_of-self : goal.invariant_of-self
invariant_of-self g c =
    let v = g.V.Volume in let i = c.self.inside in let place = c.lane_of-place.result in let a = c.index_mut.result.now in
    let within = rw (sym c.self.view_is) at c.lane_of-place.ensures.within in
    let at : slice_get i.lanes.items place ≡ Some a = lane-at v.tells v.holds v.faults i.lanes.items (λ l. l.pass.me.0)
    (λ l. l.pass.table_id) i.devices i.lock_bits i.power i.secrets.value i.asks place a within c.index_mut.ensures.value in
    let had = has-turn v.tells v.holds v.faults i.lanes.items (λ l. l.pass.me.0) (λ l. l.pass.table_id) i.devices i.lock_bits i.power
    i.secrets.value i.asks place a c.change.new.self at c.change.ensures.lock _ c.change.ensures.made in
    shared-after v.tells v.holds v.faults _ _ place _ c.self.invariant had (λ k n step. step.same)

pub returns-clause-turn : goal.returns-clause-turn
returns-clause-turn g c =
    let v = g.V.Volume in let i = c.self.inside in let place = c.lane_of-place.result in let a = c.index_mut.result.now in
    let within = rw (sym c.self.view_is) at c.lane_of-place.ensures.within in
    let at : slice_get i.lanes.items place ≡ Some a = lane-at v.tells v.holds v.faults i.lanes.items (λ l. l.pass.me.0)
    (λ l. l.pass.table_id) i.devices i.lock_bits i.power i.secrets.value i.asks place a within c.index_mut.ensures.value in
    let lock = rw (sym c.self.view_is) at c.lane_of-place.ensures.lock in
    rw (sym c.self.view_is, lock)
    (has-turn v.tells v.holds v.faults i.lanes.items (λ l. l.pass.me.0) (λ l. l.pass.table_id) i.devices i.lock_bits i.power i.secrets.value
    i.asks (lock_of i.lock_bits i.power c.args.device c.args.name.now.hash) a c.change.new.self (ap (slice_get i.lanes.items) (sym lock) ∙ at)
    c.change.ensures.lock _ c.change.ensures.made)
