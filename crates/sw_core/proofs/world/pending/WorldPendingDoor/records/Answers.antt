use Rattle.std.proofs.Common.{◌≡◌, ◌-◌, ◌*◌, ◌^◌, ◌<◌, [], ◌∷◌, ◌++◌, Some, None, refl, sym, ◌∙◌, ap}
use Rattle.std.proofs.lemmas.List.{length-set}
use Rattle.std.specs.List.{slice_get}
use Rattle.sw_objdir.specs.Directories.{Kept}
use Rattle.sw_core.specs.Worlds.{keeper_seen}
use Rattle.sw_core.proofs.Placed.{world-records}
use Rattle.sw_core.proofs.Wanting.{lock-stands, reserved, wants-records}
use Rattle.sw_core.proofs.Wholes.{found, lined, none-out, open-at, open-is, roomy, some-same, stepped}
use Rattle.sw_core.proofs.Witness.{hash_with, of-stripe}
use Rattle.sw_core.specs.Worlds.{AllNodes, stripe_lock_of}
use Rattle.sw_object_steps.specs.Journals.{Hash}
use Rattle.sw_core.specs.declared.slot.Slot.TheVariants as slots
use Rattle.sw_core.proofs.world.pending.WorldPendingDoor.records.Goals as goal

pub returns-then-is_err-clause-read : goal.returns-then-is_err-clause-read
returns-then-is_err-clause-read g c =
    let v = g.V.Volume in let i = c.self.inside in
    let w : AllNodes _ _ = record {
      devices = i.devices;
      lock_bits = i.lock_bits;
      power = i.power;
      secrets = i.secrets;
      slots = i.slots.items;
      lines = i.lines.items;
      max_bytes = i.max_bytes;
      asks = i.asks;
      lifted = i.lifted;
      containers = i.containers;
    } in
    let lock = rw (sym c.self.view_is) at c.lock_of_stripe-place.ensures.lock in
    let within = rw (sym c.self.view_is) at c.lock_of_stripe-place.ensures.within in
    let below : c.args.stripe < 2 ^ i.lock_bits = rw (sym c.self.view_is) at c.requires.stripe in
    let world = c.self.invariant.0 in
    let hash : Hash = hash_with i.power (c.args.stripe * 2 ^ (i.power - i.lock_bits)) 0 in
    rw (sym c.self.view_is) (wants-records v.tells v.holds v.faults (keeper_seen g.K.Keeper.tells g.K.Keeper.holds g.K.Keeper.faults) w
    c.reserve.new.self.items c.reserve.ensures.items c.args.link c.args.device c.args.stripe hash
    (of-stripe i.lock_bits i.power c.args.stripe world.fine world.greatest below)
    (lock-stands v.tells v.holds v.faults i.slots.items (stripe_lock_of i.lock_bits c.args.device c.args.stripe) c.lock_of_stripe-place.result
    c.index.result.now lock within c.index.ensures c.may_stand.ensures))

pub unreachable-requires : goal.unreachable-requires
unreachable-requires g c =
    let i = c.self.inside in
    let w : AllNodes _ _ = record {
      devices = i.devices;
      lock_bits = i.lock_bits;
      power = i.power;
      secrets = i.secrets;
      slots = i.slots.items;
      lines = i.lines.items;
      max_bytes = i.max_bytes;
      asks = i.asks;
      lifted = i.lifted;
      containers = i.containers;
    } in
    let whole : i.lifted ≡ None = none-out i.lifted c.args.device i.devices (rw (sym c.self.view_is) at c.requires.device) in
    let there = open-at w c.self.invariant.0 whole c.lock_of_stripe-place.result (rw (sym c.self.view_is) at c.lock_of_stripe-place.ensures.within) in
    absurd (c.in_default.not-Open there.0 (some-same c.index_mut.result.now (slots.Open there.0)
    (sym (found i.slots.items c.lock_of_stripe-place.result c.index_mut.result.now (rw (sym c.self.view_is) at c.lock_of_stripe-place.ensures.within)
    c.index_mut.ensures.value) ∙ there.1)))

pub invariant_of-self : goal.invariant_of-self
invariant_of-self g c =
    let i = c.self.inside in
    let w : AllNodes _ _ = record {
      devices = i.devices;
      lock_bits = i.lock_bits;
      power = i.power;
      secrets = i.secrets;
      slots = i.slots.items;
      lines = i.lines.items;
      max_bytes = i.max_bytes;
      asks = i.asks;
      lifted = i.lifted;
      containers = i.containers;
    } in
    let whole : i.lifted ≡ None = none-out i.lifted c.args.device i.devices (rw (sym c.self.view_is) at c.requires.device) in (
      lined w c.self.invariant.0 c.reserve.new.self.items i.asks,
      roomy i.slots.items i.slots.items i.room i.lines c.reserve.new.self i.spare i.lifted whole refl
          c.self.invariant.1,
      c.self.invariant.2,
    )

pub invariant_of-self-2 : goal.invariant_of-self-2
invariant_of-self-2 g c =
    let i = c.self.inside in
    let w : AllNodes _ _ = record {
      devices = i.devices;
      lock_bits = i.lock_bits;
      power = i.power;
      secrets = i.secrets;
      slots = i.slots.items;
      lines = i.lines.items;
      max_bytes = i.max_bytes;
      asks = i.asks;
      lifted = i.lifted;
      containers = i.containers;
    } in
    let whole : i.lifted ≡ None = none-out i.lifted c.args.device i.devices (rw (sym c.self.view_is) at c.requires.device) in
    let at : slice_get i.slots.items c.lock_of_stripe-place.result ≡ Some (slots.Open c.in-Open.dir) =
    found i.slots.items c.lock_of_stripe-place.result c.index_mut.result.now (rw (sym c.self.view_is) at c.lock_of_stripe-place.ensures.within)
    c.index_mut.ensures.value ∙ ap Some c.in-Open.is in
    let same = c.records_in-got.ensures.step.same in let read = c.records_in-got.ensures.step.reads in (
      stepped w c.self.invariant.0 whole c.lock_of_stripe-place.result c.in-Open.dir c.records_in-got.new.dir c.push_reserved.new.self.items i.asks at
          same.secrets same.power read.follows.max_entries read.follows.max_bytes,
      roomy i.slots.items _ i.room i.lines c.push_reserved.new.self i.spare i.lifted whole
          (length-set i.slots.items c.lock_of_stripe-place.result (slots.Open c.records_in-got.new.dir)) c.self.invariant.1,
      c.self.invariant.2,
    )

pub returns-clause-read : goal.returns-clause-read
returns-clause-read g c =
    let v = g.V.Volume in let i = c.self.inside in
    let w : AllNodes _ _ = record {
      devices = i.devices;
      lock_bits = i.lock_bits;
      power = i.power;
      secrets = i.secrets;
      slots = i.slots.items;
      lines = i.lines.items;
      max_bytes = i.max_bytes;
      asks = i.asks;
      lifted = i.lifted;
      containers = i.containers;
    } in
    let whole : i.lifted ≡ None = none-out i.lifted c.args.device i.devices (rw (sym c.self.view_is) at c.requires.device) in
    let d : Kept _ = c.in-Open.dir in
    let x : Kept _ = c.records_in-got.new.dir in
    let lock = rw (sym c.self.view_is) at c.lock_of_stripe-place.ensures.lock in
    let within = rw (sym c.self.view_is) at c.lock_of_stripe-place.ensures.within in
    let there : slice_get i.slots.items c.lock_of_stripe-place.result ≡ Some (slots.Open d) =
    found i.slots.items c.lock_of_stripe-place.result c.index_mut.result.now within c.index_mut.ensures.value ∙ ap Some c.in-Open.is in
    let at : slice_get w.slots (stripe_lock_of i.lock_bits c.args.device c.args.stripe) ≡ Some (slots.Open d) = ap (slice_get w.slots) (sym lock) ∙ there in
    let items : c.push_reserved.new.self.items ≡ w.lines ++ c.records_in-got.result.1 ∷ [] = c.push_reserved.ensures.items ∙ rw c.reserve.ensures.items refl in
    let own : d.secrets ≡ i.secrets = (open-is w c.self.invariant.0 whole c.lock_of_stripe-place.result d there).0 in
    let below : c.args.stripe < 2 ^ i.lock_bits = rw (sym c.self.view_is) at c.requires.stripe in
    let world = c.self.invariant.0 in
    let hash : Hash = hash_with i.power (c.args.stripe * 2 ^ (i.power - i.lock_bits)) 0 in
    rw (sym c.self.view_is, lock)
    (world-records v.tells v.holds v.faults (keeper_seen g.K.Keeper.tells g.K.Keeper.holds g.K.Keeper.faults) w c.args.device c.args.stripe d x at own
    c.args.link c.records_in-got.result.1 c.push_reserved.new.self.items items c.records_in-got.result.0 hash
    (of-stripe i.lock_bits i.power c.args.stripe world.fine world.greatest below) c.records_in-got.ensures)

pub push_reserved-requires : goal.push_reserved-requires
push_reserved-requires g c = reserved c.reserve.result _ _ (sym c.is_err.ensures.value ∙ c.if-is_err.false) c.reserve.ensures.ok
