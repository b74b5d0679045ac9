use Rattle.std.proofs.Common.{◌≡◌, ◌==◌, ℕ, true, ◌^◌, ◌<◌, false, [], ◌∷◌, ◌++◌, Some, None, refl, sym, ◌∙◌, ap, subst}
use Rattle.std.proofs.lemmas.List.{length-set}
use Rattle.std.specs.List.{slice_get}
use Rattle.sw_objdir.specs.Directories.{Kept}
use Rattle.sw_object_steps.specs.Journals.{Hash}
use Rattle.sw_object_steps.specs.Parts.{AreHashes, IsOfPart}
use Rattle.sw_core.specs.Worlds.{keeper_seen}
use Rattle.sw_core.proofs.Witness.{hash_with, of-part}
use Rattle.sw_core.proofs.Placed.{world-part}
use Rattle.sw_core.proofs.Wanting.{lock-stands, wants-part}
use Rattle.sw_core.proofs.Wholes.{found, none-out, open-at, open-is, roomy, some-same, stepped}
use Rattle.sw_core.specs.Worlds.{AllNodes, part_lock_of}
use Rattle.sw_core.specs.declared.slot.Slot.TheVariants as slots
use Rattle.sw_core.specs.Making.{IsPartIn}
use Rattle.std.proofs.lemmas.Bool.{eq-eqb}
use borrow.Author.Tests.{eqb-true}
use Rattle.sw_hashpath.specs.HashParts.{partition_of}
use Rattle.sw_peer.specs.Sights.{in_part}
use Rattle.sw_peer.specs.declared.part_read.PartRead.TheVariants.{Hashes}
use Rattle.sw_core.proofs.world.door.WorldReplicaDoor.hashes.Goals as goal

pub returns-then-is_err-clause-read : goal.returns-then-is_err-clause-read
returns-then-is_err-clause-read g c =
    let v = g.V.Volume in let i = c.self.inside in
    let w : AllNodes _ _ = record {
      devices = i.devices;
      lock_bits = i.lock_bits;
      power = i.power;
      secrets = i.secrets;
      slots = i.slots.items;
      lines = i.lines.items;
      max_bytes = i.max_bytes;
      asks = i.asks;
      lifted = i.lifted;
      containers = i.containers;
    } in
    let lock = rw (sym c.self.view_is) at c.lock_of_part-place.ensures.lock in
    let within = rw (sym c.self.view_is) at c.lock_of_part-place.ensures.within in
    rw (sym c.self.view_is) (wants-part v.tells v.holds v.faults (keeper_seen g.K.Keeper.tells g.K.Keeper.holds g.K.Keeper.faults) w c.reserve.new.self.items
    c.reserve.ensures.items c.args.link c.args.device c.args.part
    c.asked_after-self-inside.result (in_part c.args.part) false (λ nodes told s got. AreHashes nodes.power c.args.part told s got.items)
    (λ got. Hashes c.args.part got)
    (lock-stands v.tells v.holds v.faults i.slots.items (part_lock_of i.lock_bits i.power c.args.device c.args.part) c.lock_of_part-place.result
    c.index.result.now lock within c.index.ensures c.may_stand.ensures)
    (λ key is. eqb-true (partition_of key i.power) c.args.part is))

pub unreachable-requires : goal.unreachable-requires
unreachable-requires g c =
    let i = c.self.inside in
    let w : AllNodes _ _ = record {
      devices = i.devices;
      lock_bits = i.lock_bits;
      power = i.power;
      secrets = i.secrets;
      slots = i.slots.items;
      lines = i.lines.items;
      max_bytes = i.max_bytes;
      asks = i.asks;
      lifted = i.lifted;
      containers = i.containers;
    } in
    let whole : i.lifted ≡ None = none-out i.lifted c.args.device i.devices (rw (sym c.self.view_is) at c.requires.device) in
    let there = open-at w c.self.invariant.0 whole c.lock_of_part-place.result (rw (sym c.self.view_is) at c.lock_of_part-place.ensures.within) in
    absurd (c.in_default.not-Open there.0 (some-same c.index_mut.result.now (slots.Open there.0)
    (sym (found i.slots.items c.lock_of_part-place.result c.index_mut.result.now (rw (sym c.self.view_is) at c.lock_of_part-place.ensures.within)
    c.index_mut.ensures.value) ∙ there.1)))

pub hashes_in-got-requires : goal.hashes_in-got-requires
hashes_in-got-requires g c =
    let i = c.self.inside in
    let w : AllNodes _ _ = record {
      devices = i.devices;
      lock_bits = i.lock_bits;
      power = i.power;
      secrets = i.secrets;
      slots = i.slots.items;
      lines = i.lines.items;
      max_bytes = i.max_bytes;
      asks = i.asks;
      lifted = i.lifted;
      containers = i.containers;
    } in
    let whole : i.lifted ≡ None = none-out i.lifted c.args.device i.devices (rw (sym c.self.view_is) at c.requires.device) in
    let at : slice_get i.slots.items c.lock_of_part-place.result ≡ Some (slots.Open c.in-Open.dir) =
    found i.slots.items c.lock_of_part-place.result c.index_mut.result.now (rw (sym c.self.view_is) at c.lock_of_part-place.ensures.within)
    c.index_mut.ensures.value ∙ ap Some c.in-Open.is
    in
    let power : c.in-Open.dir.power ≡ i.power = (open-is w c.self.invariant.0 whole c.lock_of_part-place.result c.in-Open.dir at).1 in
    record { part = subst (λ (n : _). c.args.part < 2 ^ n) (sym power) (rw (sym c.self.view_is) at c.requires.part) }

pub invariant_of-self-2 : goal.invariant_of-self-2
invariant_of-self-2 g c =
    let i = c.self.inside in
    let w : AllNodes _ _ = record {
      devices = i.devices;
      lock_bits = i.lock_bits;
      power = i.power;
      secrets = i.secrets;
      slots = i.slots.items;
      lines = i.lines.items;
      max_bytes = i.max_bytes;
      asks = i.asks;
      lifted = i.lifted;
      containers = i.containers;
    } in
    let whole : i.lifted ≡ None = none-out i.lifted c.args.device i.devices (rw (sym c.self.view_is) at c.requires.device) in
    let at : slice_get i.slots.items c.lock_of_part-place.result ≡ Some (slots.Open c.in-Open.dir) =
    found i.slots.items c.lock_of_part-place.result c.index_mut.result.now (rw (sym c.self.view_is) at c.lock_of_part-place.ensures.within)
    c.index_mut.ensures.value ∙ ap Some c.in-Open.is
    in
    let same = c.hashes_in-got.ensures.step.same in let read = c.hashes_in-got.ensures.step.reads in (
      stepped w c.self.invariant.0 whole c.lock_of_part-place.result c.in-Open.dir c.hashes_in-got.new.dir c.push_reserved.new.self.items
          c.asked_after-self-inside.result at same.secrets same.power read.follows.max_entries read.follows.max_bytes,
      roomy i.slots.items _ i.room i.lines c.push_reserved.new.self i.spare i.lifted whole
          (length-set i.slots.items c.lock_of_part-place.result (slots.Open c.hashes_in-got.new.dir)) c.self.invariant.1,
      c.self.invariant.2,
    )

pub returns-clause-read : goal.returns-clause-read
returns-clause-read g c =
    let v = g.V.Volume in let i = c.self.inside in
    let w : AllNodes _ _ = record {
      devices = i.devices;
      lock_bits = i.lock_bits;
      power = i.power;
      secrets = i.secrets;
      slots = i.slots.items;
      lines = i.lines.items;
      max_bytes = i.max_bytes;
      asks = i.asks;
      lifted = i.lifted;
      containers = i.containers;
    } in
    let whole : i.lifted ≡ None = none-out i.lifted c.args.device i.devices (rw (sym c.self.view_is) at c.requires.device) in
    let lock = rw (sym c.self.view_is) at c.lock_of_part-place.ensures.lock in
    let within = rw (sym c.self.view_is) at c.lock_of_part-place.ensures.within in
    let d : Kept _ = c.in-Open.dir in
    let x : Kept _ = c.hashes_in-got.new.dir in
    let at : slice_get i.slots.items c.lock_of_part-place.result ≡ Some (slots.Open d) =
    found i.slots.items c.lock_of_part-place.result c.index_mut.result.now within c.index_mut.ensures.value ∙ ap Some c.in-Open.is in
    let here : slice_get w.slots (part_lock_of w.lock_bits w.power c.args.device c.args.part) ≡ Some (slots.Open d) = ap (slice_get w.slots) (sym lock) ∙ at in
    let items : c.push_reserved.new.self.items ≡ w.lines ++ c.hashes_in-got.result.1 ∷ [] = c.push_reserved.ensures.items ∙ rw c.reserve.ensures.items refl in
    let power : d.power ≡ i.power = (open-is w c.self.invariant.0 whole c.lock_of_part-place.result d at).1 in
    let made : IsPartIn v.tells v.holds v.faults d c.args.link c.args.device (λ hash. partition_of hash i.power == c.args.part) false
    (λ told s got. AreHashes i.power c.args.part told s got.items) (λ got. Hashes c.args.part got) c.hashes_in-got.result.0 x c.hashes_in-got.result.1 =
    subst (λ (p : ℕ). IsPartIn v.tells v.holds v.faults d c.args.link c.args.device (λ hash. partition_of hash p == c.args.part) false
    (λ told s got. AreHashes p c.args.part told s got.items) (λ got. Hashes c.args.part got) c.hashes_in-got.result.0 x c.hashes_in-got.result.1) power
    c.hashes_in-got.ensures in
    let below : c.args.part < 2 ^ i.power = rw (sym c.self.view_is) at c.requires.part in
    let hash : Hash = hash_with i.power c.args.part 0 in
    let of : IsOfPart i.power c.args.part hash = of-part i.power c.args.part 0 c.self.invariant.0.greatest below in
    let own : (partition_of hash i.power == c.args.part) ≡ true = eq-eqb _ _ of.part_is in
    rw (sym c.self.view_is, lock)
    (world-part v.tells v.holds v.faults (keeper_seen g.K.Keeper.tells g.K.Keeper.holds g.K.Keeper.faults) w c.args.device c.args.part d x here c.args.link
    c.hashes_in-got.result.1 c.push_reserved.new.self.items items
    c.asked_after-self-inside.result (in_part c.args.part) false (λ nodes told s got. AreHashes nodes.power c.args.part told s got.items)
    (λ got. Hashes c.args.part got) c.hashes_in-got.result.0 hash of own
    (λ key is. eqb-true (partition_of key i.power) c.args.part is) made)
