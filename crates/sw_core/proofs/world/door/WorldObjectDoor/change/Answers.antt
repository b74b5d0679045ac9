use Rattle.std.proofs.Common.{◌≡◌, true, [], ◌∷◌, ◌++◌, Some, None, refl, sym, ◌∙◌, ap}
use Rattle.std.proofs.lemmas.List.{length-set}
use Rattle.std.specs.List.{slice_get}
use Rattle.sw_objdir.specs.Directories.{Kept}
use Rattle.sw_core.specs.Worlds.{keeper_seen}
use Rattle.sw_core.proofs.Placed.{world-made}
use Rattle.sw_core.proofs.Wanting.{lock-stands, reserved, wants}
use Rattle.sw_core.proofs.Wholes.{found, hashed, lined, none-out, open-at, open-is, roomy, some-same, stepped}
use Rattle.sw_core.specs.Worlds.{AllNodes, lock_of}
use Rattle.sw_hashdir.specs.Steps.{is_hashed}
use Rattle.sw_core.specs.declared.slot.Slot.TheVariants as slots
use Rattle.sw_core.proofs.world.door.WorldObjectDoor.change.Goals as goal

pub returns-then-is_err-clause-made : goal.returns-then-is_err-clause-made
returns-then-is_err-clause-made g c =
    let v = g.V.Volume in let i = c.self.inside in
    let w : AllNodes _ _ = record {
      devices = i.devices;
      lock_bits = i.lock_bits;
      power = i.power;
      secrets = i.secrets;
      slots = i.slots.items;
      lines = i.lines.items;
      max_bytes = i.max_bytes;
      asks = i.asks;
      lifted = i.lifted;
      containers = i.containers;
    } in
    let lock = rw (sym c.self.view_is) at c.lock-place.ensures.lock in
    let within = rw (sym c.self.view_is) at c.lock-place.ensures.within in
    rw (sym c.self.view_is) (wants v.tells v.holds v.faults (keeper_seen g.K.Keeper.tells g.K.Keeper.holds g.K.Keeper.faults) w c.reserve.new.self.items
    c.reserve.ensures.items c.args.link c.args.device c.args.name.now
    (lock-stands v.tells v.holds v.faults i.slots.items (lock_of i.lock_bits i.power c.args.device c.args.name.now.hash) c.lock-place.result
    c.index.result.now lock within c.index.ensures c.may_stand.ensures) c.args.change)

pub returns-in_default-clause-made : goal.returns-in_default-clause-made
returns-in_default-clause-made g c =
    let v = g.V.Volume in let i = c.self.inside in
    let w : AllNodes _ _ = record {
      devices = i.devices;
      lock_bits = i.lock_bits;
      power = i.power;
      secrets = i.secrets;
      slots = i.slots.items;
      lines = i.lines.items;
      max_bytes = i.max_bytes;
      asks = i.asks;
      lifted = i.lifted;
      containers = i.containers;
    } in
    let lock = rw (sym c.self.view_is) at c.lock-place.ensures.lock in
    let within = rw (sym c.self.view_is) at c.lock-place.ensures.within in
    rw (sym c.self.view_is) (wants v.tells v.holds v.faults (keeper_seen g.K.Keeper.tells g.K.Keeper.holds g.K.Keeper.faults) w c.reserve.new.self.items
    c.reserve.ensures.items c.args.link c.args.device c.args.name.now
    (lock-stands v.tells v.holds v.faults i.slots.items (lock_of i.lock_bits i.power c.args.device c.args.name.now.hash) c.lock-place.result
    c.index.result.now lock within c.index.ensures c.may_stand.ensures) c.args.change)

pub invariant_of-self : goal.invariant_of-self
invariant_of-self g c =
    let i = c.self.inside in
    let w : AllNodes _ _ = record {
      devices = i.devices;
      lock_bits = i.lock_bits;
      power = i.power;
      secrets = i.secrets;
      slots = i.slots.items;
      lines = i.lines.items;
      max_bytes = i.max_bytes;
      asks = i.asks;
      lifted = i.lifted;
      containers = i.containers;
    } in
    let whole : i.lifted ≡ None = none-out i.lifted c.args.device i.devices (rw (sym c.self.view_is) at c.requires.device) in (
      lined w c.self.invariant.0 c.reserve.new.self.items i.asks,
      roomy i.slots.items i.slots.items i.room i.lines c.reserve.new.self i.spare i.lifted whole refl
          c.self.invariant.1,
      c.self.invariant.2,
    )

pub invariant_of-self-in_default : goal.invariant_of-self-in_default
invariant_of-self-in_default g c =
    let i = c.self.inside in
    let w : AllNodes _ _ = record {
      devices = i.devices;
      lock_bits = i.lock_bits;
      power = i.power;
      secrets = i.secrets;
      slots = i.slots.items;
      lines = i.lines.items;
      max_bytes = i.max_bytes;
      asks = i.asks;
      lifted = i.lifted;
      containers = i.containers;
    } in
    let whole : i.lifted ≡ None = none-out i.lifted c.args.device i.devices (rw (sym c.self.view_is) at c.requires.device) in (
      lined w c.self.invariant.0 c.reserve.new.self.items i.asks,
      roomy i.slots.items i.slots.items i.room i.lines c.reserve.new.self i.spare i.lifted whole refl
          c.self.invariant.1,
      c.self.invariant.2,
    )

pub unreachable-requires : goal.unreachable-requires
unreachable-requires g c =
    let i = c.self.inside in
    let w : AllNodes _ _ = record {
      devices = i.devices;
      lock_bits = i.lock_bits;
      power = i.power;
      secrets = i.secrets;
      slots = i.slots.items;
      lines = i.lines.items;
      max_bytes = i.max_bytes;
      asks = i.asks;
      lifted = i.lifted;
      containers = i.containers;
    } in
    let whole : i.lifted ≡ None = none-out i.lifted c.args.device i.devices (rw (sym c.self.view_is) at c.requires.device) in
    let there = open-at w c.self.invariant.0 whole c.lock-place.result (rw (sym c.self.view_is) at c.lock-place.ensures.within) in
    absurd (c.in_default-index_mut.not-Open there.0 (some-same c.index_mut.result.now (slots.Open there.0)
    (sym (found i.slots.items c.lock-place.result c.index_mut.result.now (rw (sym c.self.view_is) at c.lock-place.ensures.within) c.index_mut.ensures.value)
    ∙ there.1)))

pub change_in-answer-requires-clause-hashed : goal.change_in-answer-requires-clause-hashed
change_in-answer-requires-clause-hashed g c =
    let i = c.self.inside in
    let w : AllNodes _ _ = record {
      devices = i.devices;
      lock_bits = i.lock_bits;
      power = i.power;
      secrets = i.secrets;
      slots = i.slots.items;
      lines = i.lines.items;
      max_bytes = i.max_bytes;
      asks = i.asks;
      lifted = i.lifted;
      containers = i.containers;
    } in
    let whole : i.lifted ≡ None = none-out i.lifted c.args.device i.devices (rw (sym c.self.view_is) at c.requires.device) in
    let at : slice_get i.slots.items c.lock-place.result ≡ Some (slots.Open c.in-Open.dir) =
    found i.slots.items c.lock-place.result c.index_mut.result.now (rw (sym c.self.view_is) at c.lock-place.ensures.within) c.index_mut.ensures.value
    ∙ ap Some c.in-Open.is in
    let fits : is_hashed i.secrets c.args.name.now ≡ true = rw (sym c.self.view_is) at c.requires.fits in
    rw (open-is w c.self.invariant.0 whole c.lock-place.result c.in-Open.dir at).0 (hashed i.secrets c.args.name.now fits)

pub invariant_of-self-2 : goal.invariant_of-self-2
invariant_of-self-2 g c =
    let i = c.self.inside in
    let w : AllNodes _ _ = record {
      devices = i.devices;
      lock_bits = i.lock_bits;
      power = i.power;
      secrets = i.secrets;
      slots = i.slots.items;
      lines = i.lines.items;
      max_bytes = i.max_bytes;
      asks = i.asks;
      lifted = i.lifted;
      containers = i.containers;
    } in
    let whole : i.lifted ≡ None = none-out i.lifted c.args.device i.devices (rw (sym c.self.view_is) at c.requires.device) in
    let at : slice_get i.slots.items c.lock-place.result ≡ Some (slots.Open c.in-Open.dir) =
    found i.slots.items c.lock-place.result c.index_mut.result.now (rw (sym c.self.view_is) at c.lock-place.ensures.within) c.index_mut.ensures.value
    ∙ ap Some c.in-Open.is in
    let same = c.change_in-answer.ensures.step.same in let made = c.change_in-answer.ensures.step.changes in (
      stepped w c.self.invariant.0 whole c.lock-place.result c.in-Open.dir c.change_in-answer.new.dir c.push_reserved.new.self.items i.asks at same.secrets
          same.power
          (made.after.max_entries ∙ made.follows.max_entries) (made.after.max_bytes ∙ made.follows.max_bytes),
      roomy i.slots.items _ i.room i.lines c.push_reserved.new.self i.spare i.lifted whole
          (length-set i.slots.items c.lock-place.result (slots.Open c.change_in-answer.new.dir)) c.self.invariant.1,
      c.self.invariant.2,
    )

pub returns-clause-made : goal.returns-clause-made
returns-clause-made g c =
    let v = g.V.Volume in let i = c.self.inside in
    let w : AllNodes _ _ = record {
      devices = i.devices;
      lock_bits = i.lock_bits;
      power = i.power;
      secrets = i.secrets;
      slots = i.slots.items;
      lines = i.lines.items;
      max_bytes = i.max_bytes;
      asks = i.asks;
      lifted = i.lifted;
      containers = i.containers;
    } in
    let d : Kept _ = c.in-Open.dir in
    let x : Kept _ = c.change_in-answer.new.dir in
    let lock = rw (sym c.self.view_is) at c.lock-place.ensures.lock in
    let within = rw (sym c.self.view_is) at c.lock-place.ensures.within in
    let there : slice_get i.slots.items c.lock-place.result ≡ Some (slots.Open d) =
    found i.slots.items c.lock-place.result c.index_mut.result.now within c.index_mut.ensures.value ∙ ap Some c.in-Open.is in
    let at : slice_get w.slots (lock_of w.lock_bits w.power c.args.device c.args.name.now.hash) ≡ Some (slots.Open d) =
    ap (slice_get w.slots) (sym lock) ∙ there in
    let items : c.push_reserved.new.self.items ≡ w.lines ++ c.change_in-answer.result.1 ∷ [] =
    c.push_reserved.ensures.items ∙ rw c.reserve.ensures.items refl in
    rw (sym c.self.view_is, lock)
    (world-made v.tells v.holds v.faults (keeper_seen g.K.Keeper.tells g.K.Keeper.holds g.K.Keeper.faults) w c.args.device c.args.name.now d x at c.args.link
    c.change_in-answer.result.1 c.push_reserved.new.self.items items
    c.args.change c.change_in-answer.result.0 c.change_in-answer.ensures)

pub push_reserved-requires : goal.push_reserved-requires
push_reserved-requires g c = reserved c.reserve.result _ _ (sym c.is_err.ensures.value ∙ c.if-is_err.false) c.reserve.ensures.ok
