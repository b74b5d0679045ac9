use Rattle.std.proofs.Common.{◌≡◌, true, [], ◌∷◌, ◌++◌, Some, None, refl, sym, ◌∙◌, ap, subst}
use Rattle.std.proofs.lemmas.List.{length-set}
use Rattle.std.specs.List.{slice_get}
use Rattle.sw_hashdir.specs.Steps.{is_hashed}
use Rattle.sw_objdir.specs.Directories.{Kept}
use Rattle.sw_object_steps.specs.Journals.{Hash}
use Rattle.sw_object_steps.specs.Parts.{IsFile, IsOfPart}
use Rattle.sw_core.specs.Worlds.{keeper_seen}
use Rattle.sw_core.proofs.Placed.{world-part}
use Rattle.sw_core.proofs.Wanting.{lock-stands, reserved, wants-part}
use Rattle.sw_core.proofs.Wholes.{found, lined, none-out, open-at, open-is, roomy, some-same, stepped}
use Rattle.sw_core.specs.Worlds.{AllNodes, part_lock_of}
use Rattle.sw_core.specs.declared.slot.Slot.TheVariants as slots
use Rattle.sw_core.specs.Making.{IsPartIn}
use Rattle.sw_object_steps.proofs.Hashes.{hash-same, hash-self}
use Rattle.sw_hashpath.specs.HashParts.{partition_of}
use Rattle.sw_hashpath.specs.declared.secrets.Secrets.{Secrets}
use Rattle.std.specs.Str.{bytes_eq}
use Rattle.sw_peer.specs.Sights.{is_one}
use Rattle.sw_peer.specs.declared.part_read.PartRead.TheVariants.{Write}
use Rattle.sw_core.proofs.world.door.WorldReplicaDoor.read_write.Goals as goal

pub returns-then-is_err-clause-read : goal.returns-then-is_err-clause-read
returns-then-is_err-clause-read g c =
    let v = g.V.Volume in let i = c.self.inside in
    let w : AllNodes _ _ = record {
      devices = i.devices;
      lock_bits = i.lock_bits;
      power = i.power;
      secrets = i.secrets;
      slots = i.slots.items;
      lines = i.lines.items;
      max_bytes = i.max_bytes;
      asks = i.asks;
      lifted = i.lifted;
      containers = i.containers;
    } in
    let lock = rw (sym c.self.view_is) at c.lock_of_part-place.ensures.lock in
    let within = rw (sym c.self.view_is) at c.lock_of_part-place.ensures.within in
    let of : IsOfPart i.power c.args.part c.args.hash.now = rw (sym c.self.view_is) at c.requires.within in
    rw (sym c.self.view_is) (wants-part v.tells v.holds v.faults (keeper_seen g.K.Keeper.tells g.K.Keeper.holds g.K.Keeper.faults) w c.reserve.new.self.items
    c.reserve.ensures.items c.args.link c.args.device c.args.part
    i.asks (is_one c.args.hash.now) true (λ nodes told s got. IsFile nodes.fits c.args.hash.now c.args.file.now told s got)
    (λ got. Write c.args.part c.args.hash.now c.args.file.now got)
    (lock-stands v.tells v.holds v.faults i.slots.items (part_lock_of i.lock_bits i.power c.args.device c.args.part) c.lock_of_part-place.result
    c.index.result.now lock within c.index.ensures c.may_stand.ensures)
    (λ key is. ap (λ (h : Hash). partition_of h i.power) (sym (hash-same c.args.hash.now key is)) ∙ of.part_is))

pub unreachable-requires : goal.unreachable-requires
unreachable-requires g c =
    let i = c.self.inside in
    let w : AllNodes _ _ = record {
      devices = i.devices;
      lock_bits = i.lock_bits;
      power = i.power;
      secrets = i.secrets;
      slots = i.slots.items;
      lines = i.lines.items;
      max_bytes = i.max_bytes;
      asks = i.asks;
      lifted = i.lifted;
      containers = i.containers;
    } in
    let whole : i.lifted ≡ None = none-out i.lifted c.args.device i.devices (rw (sym c.self.view_is) at c.requires.device) in
    let there = open-at w c.self.invariant.0 whole c.lock_of_part-place.result (rw (sym c.self.view_is) at c.lock_of_part-place.ensures.within) in
    absurd (c.in_default.not-Open there.0 (some-same c.index_mut.result.now (slots.Open there.0)
    (sym (found i.slots.items c.lock_of_part-place.result c.index_mut.result.now (rw (sym c.self.view_is) at c.lock_of_part-place.ensures.within)
    c.index_mut.ensures.value) ∙ there.1)))

pub write_in-got-requires : goal.write_in-got-requires
write_in-got-requires g c =
    let i = c.self.inside in
    let w : AllNodes _ _ = record {
      devices = i.devices;
      lock_bits = i.lock_bits;
      power = i.power;
      secrets = i.secrets;
      slots = i.slots.items;
      lines = i.lines.items;
      max_bytes = i.max_bytes;
      asks = i.asks;
      lifted = i.lifted;
      containers = i.containers;
    } in
    let whole : i.lifted ≡ None = none-out i.lifted c.args.device i.devices (rw (sym c.self.view_is) at c.requires.device) in
    let at : slice_get i.slots.items c.lock_of_part-place.result ≡ Some (slots.Open c.in-Open.dir) =
    found i.slots.items c.lock_of_part-place.result c.index_mut.result.now (rw (sym c.self.view_is) at c.lock_of_part-place.ensures.within)
    c.index_mut.ensures.value ∙ ap Some c.in-Open.is
    in
    let power : c.in-Open.dir.power ≡ i.power = (open-is w c.self.invariant.0 whole c.lock_of_part-place.result c.in-Open.dir at).1 in
    record { within = subst (λ (n : _). IsOfPart n c.args.part c.args.hash.now) (sym power) (rw (sym c.self.view_is) at c.requires.within) }

pub invariant_of-self-2 : goal.invariant_of-self-2
invariant_of-self-2 g c =
    let i = c.self.inside in
    let w : AllNodes _ _ = record {
      devices = i.devices;
      lock_bits = i.lock_bits;
      power = i.power;
      secrets = i.secrets;
      slots = i.slots.items;
      lines = i.lines.items;
      max_bytes = i.max_bytes;
      asks = i.asks;
      lifted = i.lifted;
      containers = i.containers;
    } in
    let whole : i.lifted ≡ None = none-out i.lifted c.args.device i.devices (rw (sym c.self.view_is) at c.requires.device) in
    let at : slice_get i.slots.items c.lock_of_part-place.result ≡ Some (slots.Open c.in-Open.dir) =
    found i.slots.items c.lock_of_part-place.result c.index_mut.result.now (rw (sym c.self.view_is) at c.lock_of_part-place.ensures.within)
    c.index_mut.ensures.value ∙ ap Some c.in-Open.is
    in
    let same = c.write_in-got.ensures.step.same in let read = c.write_in-got.ensures.step.reads in (
      stepped w c.self.invariant.0 whole c.lock_of_part-place.result c.in-Open.dir c.write_in-got.new.dir c.push_reserved.new.self.items i.asks at same.secrets
          same.power read.follows.max_entries read.follows.max_bytes,
      roomy i.slots.items _ i.room i.lines c.push_reserved.new.self i.spare i.lifted whole
          (length-set i.slots.items c.lock_of_part-place.result (slots.Open c.write_in-got.new.dir)) c.self.invariant.1,
      c.self.invariant.2,
    )

pub returns-clause-read : goal.returns-clause-read
returns-clause-read g c =
    let v = g.V.Volume in let i = c.self.inside in
    let w : AllNodes _ _ = record {
      devices = i.devices;
      lock_bits = i.lock_bits;
      power = i.power;
      secrets = i.secrets;
      slots = i.slots.items;
      lines = i.lines.items;
      max_bytes = i.max_bytes;
      asks = i.asks;
      lifted = i.lifted;
      containers = i.containers;
    } in
    let whole : i.lifted ≡ None = none-out i.lifted c.args.device i.devices (rw (sym c.self.view_is) at c.requires.device) in
    let lock = rw (sym c.self.view_is) at c.lock_of_part-place.ensures.lock in
    let within = rw (sym c.self.view_is) at c.lock_of_part-place.ensures.within in
    let d : Kept _ = c.in-Open.dir in
    let x : Kept _ = c.write_in-got.new.dir in
    let at : slice_get i.slots.items c.lock_of_part-place.result ≡ Some (slots.Open d) =
    found i.slots.items c.lock_of_part-place.result c.index_mut.result.now within c.index_mut.ensures.value ∙ ap Some c.in-Open.is in
    let here : slice_get w.slots (part_lock_of w.lock_bits w.power c.args.device c.args.part) ≡ Some (slots.Open d) = ap (slice_get w.slots) (sym lock) ∙ at in
    let items : c.push_reserved.new.self.items ≡ w.lines ++ c.write_in-got.result.1 ∷ [] = c.push_reserved.ensures.items ∙ rw c.reserve.ensures.items refl in
    let of : IsOfPart i.power c.args.part c.args.hash.now = rw (sym c.self.view_is) at c.requires.within in
    let secrets : d.secrets ≡ i.secrets = (open-is w c.self.invariant.0 whole c.lock_of_part-place.result d at).0 in
    let made : IsPartIn v.tells v.holds v.faults d c.args.link c.args.device (bytes_eq c.args.hash.now) true
    (λ told s got. IsFile (is_hashed i.secrets) c.args.hash.now c.args.file.now told s got) (λ got. Write c.args.part c.args.hash.now c.args.file.now got)
    c.write_in-got.result.0 x c.write_in-got.result.1 =
    subst (λ (q : Secrets). IsPartIn v.tells v.holds v.faults d c.args.link c.args.device (bytes_eq c.args.hash.now) true
    (λ told s got. IsFile (is_hashed q) c.args.hash.now c.args.file.now told s got) (λ got. Write c.args.part c.args.hash.now c.args.file.now got)
    c.write_in-got.result.0 x c.write_in-got.result.1) secrets c.write_in-got.ensures in
    rw (sym c.self.view_is, lock)
    (world-part v.tells v.holds v.faults (keeper_seen g.K.Keeper.tells g.K.Keeper.holds g.K.Keeper.faults) w c.args.device c.args.part d x here c.args.link
    c.write_in-got.result.1 c.push_reserved.new.self.items items
    i.asks (is_one c.args.hash.now) true (λ nodes told s got. IsFile nodes.fits c.args.hash.now c.args.file.now told s got)
    (λ got. Write c.args.part c.args.hash.now c.args.file.now got) c.write_in-got.result.0 c.args.hash.now of (hash-self c.args.hash.now)
    (λ key is. ap (λ (h : Hash). partition_of h i.power) (sym (hash-same c.args.hash.now key is)) ∙ of.part_is) made)

pub invariant_of-self : goal.invariant_of-self
invariant_of-self g c =
    let i = c.self.inside in
    let w : AllNodes _ _ = record {
      devices = i.devices;
      lock_bits = i.lock_bits;
      power = i.power;
      secrets = i.secrets;
      slots = i.slots.items;
      lines = i.lines.items;
      max_bytes = i.max_bytes;
      asks = i.asks;
      lifted = i.lifted;
      containers = i.containers;
    } in
    let whole : i.lifted ≡ None = none-out i.lifted c.args.device i.devices (rw (sym c.self.view_is) at c.requires.device) in (
      lined w c.self.invariant.0 c.reserve.new.self.items i.asks,
      roomy i.slots.items i.slots.items i.room i.lines c.reserve.new.self i.spare i.lifted whole refl
          c.self.invariant.1,
      c.self.invariant.2,
    )

pub push_reserved-requires : goal.push_reserved-requires
push_reserved-requires g c = reserved c.reserve.result _ _ (sym c.is_err.ensures.value ∙ c.if-is_err.false) c.reserve.ensures.ok
