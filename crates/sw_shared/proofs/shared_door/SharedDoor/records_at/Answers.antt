use Rattle.std.proofs.Common.{◌≡◌, ◌==◌, Some, sym, ◌∙◌, ap}
use Rattle.std.specs.List.{slice_get}
use Rattle.sw_core.specs.Worlds.{stripe_in, stripe_lock_of}
use Rattle.sw_shared.proofs.PartReads.{kept-records}
use Rattle.sw_shared.proofs.Placing.{has-turn, lane-at, shared-after}
use Rattle.sw_shared.proofs.shared_door.SharedDoor.records_at.Goals as goal

pub invariant_of-self : goal.invariant_of-self
invariant_of-self g c =
    let v = g.V.Volume in let i = c.self.inside in let place = c.lane_of_stripe-place.result in let a = c.index_mut.result.now in
    let within = rw (sym c.self.view_is) at c.lane_of_stripe-place.ensures.within in
    let at : slice_get i.lanes.items place ≡ Some a = lane-at v.tells v.holds v.faults i.lanes.items (λ l. l.pass.me.0)
    (λ l. l.pass.table_id) i.devices i.lock_bits i.power i.secrets.value i.asks place a within c.index_mut.ensures.value in
    let had = has-turn v.tells v.holds v.faults i.lanes.items (λ l. l.pass.me.0) (λ l. l.pass.table_id) i.devices i.lock_bits i.power
    i.secrets.value i.asks place a c.records-all.new.self at c.records-all.ensures.lock _ c.records-all.ensures.read in
    shared-after v.tells v.holds v.faults _ _ place _ c.self.invariant had (λ k n step. step.same)

pub returns-clause-turn : goal.returns-clause-turn
returns-clause-turn g c =
    let v = g.V.Volume in let i = c.self.inside in let place = c.lane_of_stripe-place.result in let a = c.index_mut.result.now in
    let within = rw (sym c.self.view_is) at c.lane_of_stripe-place.ensures.within in
    let at : slice_get i.lanes.items place ≡ Some a = lane-at v.tells v.holds v.faults i.lanes.items (λ l. l.pass.me.0)
    (λ l. l.pass.table_id) i.devices i.lock_bits i.power i.secrets.value i.asks place a within c.index_mut.ensures.value in
    let lock = rw (sym c.self.view_is) at c.lane_of_stripe-place.ensures.lock in
    rw (sym c.self.view_is, lock)
    (has-turn v.tells v.holds v.faults i.lanes.items (λ l. l.pass.me.0) (λ l. l.pass.table_id) i.devices i.lock_bits i.power i.secrets.value
    i.asks (stripe_lock_of i.lock_bits c.args.device c.args.stripe) a c.records-all.new.self (ap (slice_get i.lanes.items) (sym lock) ∙ at)
    c.records-all.ensures.lock _ (kept-records v.tells v.holds v.faults a.pass.me.0 c.records-all.new.self.pass.me.0
    (λ hash. stripe_in i.lock_bits i.power hash == c.args.stripe) c.records-all.result c.of_stripe.result c.of_stripe.ensures c.records-all.ensures.read))
