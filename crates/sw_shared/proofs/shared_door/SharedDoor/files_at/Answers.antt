use Rattle.std.proofs.Common.{◌≡◌, ◌^◌, ◌<◌, Some, sym, ◌∙◌, ap}
use Rattle.std.specs.List.{slice_get}
use Rattle.sw_core.specs.Worlds.{part_lock_of}
use Rattle.sw_shared.proofs.Placing.{began-so, has-turn, lane-at, lane-seen, shared-after}
use Rattle.sw_shared.proofs.shared_door.SharedDoor.files_at.Goals as goal

pub files_of-requires-clause-part : goal.files_of-requires-clause-part
files_of-requires-clause-part g c =
    let v = g.V.Volume in let i = c.self.inside in let place = c.lane_of_part-place.result in let a = c.index_mut.result.now in
    let within = rw (sym c.self.view_is) at c.lane_of_part-place.ensures.within in
    let at : slice_get i.lanes.items place ≡ Some a = lane-at v.tells v.holds v.faults i.lanes.items (λ l. l.pass.me.0)
    (λ l. l.pass.table_id) i.devices i.lock_bits i.power i.secrets.value i.asks place a within c.index_mut.ensures.value in
    began-so v.tells v.holds v.faults i.secrets.value i.power a.pass.me.0
    (lane-seen v.tells v.holds v.faults i.lanes.items (λ l. l.pass.me.0) (λ l. l.pass.table_id) i.devices i.lock_bits i.power i.secrets.value i.asks
    c.self.invariant place a at) (λ s p. c.args.part < 2 ^ p) (rw (sym c.self.view_is) at c.requires.part)

pub invariant_of-self : goal.invariant_of-self
invariant_of-self g c =
    let v = g.V.Volume in let i = c.self.inside in let place = c.lane_of_part-place.result in let a = c.index_mut.result.now in
    let within = rw (sym c.self.view_is) at c.lane_of_part-place.ensures.within in
    let at : slice_get i.lanes.items place ≡ Some a = lane-at v.tells v.holds v.faults i.lanes.items (λ l. l.pass.me.0)
    (λ l. l.pass.table_id) i.devices i.lock_bits i.power i.secrets.value i.asks place a within c.index_mut.ensures.value in
    let had = has-turn v.tells v.holds v.faults i.lanes.items (λ l. l.pass.me.0) (λ l. l.pass.table_id) i.devices i.lock_bits i.power
    i.secrets.value i.asks place a c.files_of.new.self at c.files_of.ensures.lock _ c.files_of.ensures.read in
    shared-after v.tells v.holds v.faults _ _ place _ c.self.invariant had (λ k n step. step.same)

pub returns-clause-turn : goal.returns-clause-turn
returns-clause-turn g c =
    let v = g.V.Volume in let i = c.self.inside in let place = c.lane_of_part-place.result in let a = c.index_mut.result.now in
    let within = rw (sym c.self.view_is) at c.lane_of_part-place.ensures.within in
    let at : slice_get i.lanes.items place ≡ Some a = lane-at v.tells v.holds v.faults i.lanes.items (λ l. l.pass.me.0)
    (λ l. l.pass.table_id) i.devices i.lock_bits i.power i.secrets.value i.asks place a within c.index_mut.ensures.value in
    let lock = rw (sym c.self.view_is) at c.lane_of_part-place.ensures.lock in
    rw (sym c.self.view_is, lock)
    (has-turn v.tells v.holds v.faults i.lanes.items (λ l. l.pass.me.0) (λ l. l.pass.table_id) i.devices i.lock_bits i.power i.secrets.value
    i.asks (part_lock_of i.lock_bits i.power c.args.device c.args.part) a c.files_of.new.self (ap (slice_get i.lanes.items) (sym lock) ∙ at)
    c.files_of.ensures.lock _ c.files_of.ensures.read)
