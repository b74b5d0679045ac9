-- Two runs, one after the other.
use Rattle.std.proofs.Common.{◌≡◌, ℕ, ◌+◌, ◌*◌, ◌/◌, ◌^◌, ◌<◌, Bool, true, false, if◌then◌else◌, List, [], ◌∷◌, ◌++◌, length, refl, sym, ◌∙◌}
use Rattle.std.proofs.Common.{ap, subst, arith, fold, Option, None, Some}
use Rattle.std.specs.List.{slice_get}
use Rattle.std.specs.Option.{option_map}
use Rattle.std.proofs.lemmas.Nat.{div-mul-add, mod-mul-add, rows}
use Rattle.std.proofs.lemmas.Option.{slice_get-map}
use Rattle.sw_container_locks.specs.Halves.{cont_held_of, cont_seen_of}
use Rattle.sw_container_locks.specs.Slots.{begun}
use Rattle.sw_container_locks.specs.declared.cont_slot.ContSlot.{ContSlot}
use Rattle.sw_container_locks.specs.declared.cont_slot.ContSlot.TheVariants as cont_slots
use Rattle.sw_core.proofs.Keeping.{there-is}
use Rattle.sw_core.proofs.Placed.{stripe-below}
use Rattle.sw_core.specs.Limits.{journal_entries}
use Rattle.sw_core.specs.Worlds.{KeeperSeen, held_of, keepers_in, lock_of, opened, place_lock, seen_of, stripe_at, volumes_in}
use Rattle.sw_core.specs.declared.slot.Slot.{Slot}
use Rattle.sw_core.specs.declared.slot.Slot.TheVariants as slots
use Rattle.sw_hashdir.specs.Places.{holds}
use Rattle.sw_hashpath.specs.HashParts.{partition_of}
use Rattle.sw_hashpath.specs.declared.place.Place.{Place}
use Rattle.sw_machine.proofs.Objects.{joins-from}
use Rattle.sw_machine.specs.Machine.{writes_at}
use Rattle.sw_objdir.proofs.Looking.{values-told}
use Rattle.sw_objdir.specs.Directories.{started, value_at}
use Rattle.sw_object_steps.specs.Journals.{Hash}
use Rattle.sw_object_steps.specs.Values.{ObjValue}
use Rattle.sw_ring.specs.declared.ring.Ring.{Ring}
use Rattle.sw_state.specs.States.{joined, state_of, writes_of}
use Rattle.sw_state.specs.declared.state.State.{State}
use Rattle.sw_state.specs.declared.write.Write.{Write}
use Rattle.sw_stores.proofs.AtPlaces.{started-at}
use Rattle.sw_stores.specs.Places.{at_place}
use Rattle.sw_stores.specs.Starting.{AreStarted, StartsFrom}
use Rattle.sw_volume.specs.Tree.{Folders}
use Rattle.sw_cluster.specs.Composing.{Leads, ObjectsCompose, RunsLead, ServingLeads, TablesCompose, began}
use Rattle.sw_cluster.specs.Ending.{IsKept, IsStored}

-- what is joined with some writes and then with others is joined with both
joined-twice : (s : State) (ws vs : List Write) → state_of (writes_of (state_of (writes_of s ++ ws)) ++ vs) ≡ state_of (writes_of s ++ (ws ++ vs))
joined-twice s ws vs =
    sym (joins-from (state_of (writes_of s ++ ws)) vs)
    ∙ (ap (λ (t : State). fold joined t vs) (sym (joins-from s ws)) ∙ (over s ws vs ∙ joins-from s (ws ++ vs)))
  where
    over : (t : State) (xs ys : List Write) → fold joined (fold joined t xs) ys ≡ fold joined t (xs ++ ys)
    over t [] ys = refl
    over t (x ∷ xs) ys = over (joined t x) xs ys

module _ {V K : Type 0} (tells : V → Bool) (files : V → Folders) (faults : V → ℕ) (keeps : KeeperSeen K) (first : V × K → Type 0) (ring : Ring) where
  -- the part of a lock of nodes that begin with what rests is the one that rests there, where that is known
  pub starts-with : (rests : ℕ → ℕ → Option (V × K)) (parts : List (V × K)) → AreStarted first rests (2 ^ ring.lock_bits) 0 parts
      → length parts ≡ length ring.devices * 2 ^ ring.lock_bits → (device : ℕ) (hash : Hash) (part : V × K) → device < length ring.devices
      → rests device (stripe_at ring.lock_bits ring.power (partition_of hash ring.power)) ≡ Some part
      → slice_get parts (lock_of ring.lock_bits ring.power device hash) ≡ Some part
  starts-with rests parts are count device hash part here resting =
      found.1 ∙ ap Some (as-rested (at_place rests (2 ^ ring.lock_bits) lock) at found.0
      (subst (λ (n : ℕ). StartsFrom first (at_place rests (2 ^ ring.lock_bits) n) found.0) none
      (started-at first rests (2 ^ ring.lock_bits) 0 parts lock found.0 are found.1)))
    where
      lock : ℕ
      lock = lock_of ring.lock_bits ring.power device hash

      none : 0 + lock ≡ lock
      none = omega arith

      low : stripe_at ring.lock_bits ring.power (partition_of hash ring.power) < 2 ^ ring.lock_bits
      low = stripe-below ring.lock_bits ring.power (partition_of hash ring.power)

      within : lock < length parts
      within = rw count (under device (length ring.devices) (stripe_at ring.lock_bits ring.power (partition_of hash ring.power)) (2 ^ ring.lock_bits)
          here low)
        where
          under : (d n s b : ℕ) → d < n → s < b → d * b + s < n * b
          under d n s b h g = grind (arith, rows)

      found : (p : V × K) × (slice_get parts lock ≡ Some p)
      found = there-is parts lock within

      at : at_place rests (2 ^ ring.lock_bits) lock ≡ Some part
      at = subst (λ (s : ℕ). rests (lock / 2 ^ ring.lock_bits) s ≡ Some part)
          (sym (mod-mul-add device (2 ^ ring.lock_bits) (stripe_at ring.lock_bits ring.power (partition_of hash ring.power)) low))
          (subst (λ (d : ℕ). rests d (stripe_at ring.lock_bits ring.power (partition_of hash ring.power)) ≡ Some part)
          (sym (div-mul-add device (2 ^ ring.lock_bits) (stripe_at ring.lock_bits ring.power (partition_of hash ring.power)) low)) resting)

      as-rested : (o : Option (V × K)) → o ≡ Some part → (p : V × K) → StartsFrom first o p → p ≡ part
      as-rested None is p starts = cc
      as-rested (Some q) is p starts = let same : q ≡ part = cc in starts ∙ same

  -- so its object lock is a directory that begins over the volume
  pub slot-is : (bytes : ℕ) (parts : List (V × K)) (l : ℕ) (part : V × K) → slice_get parts l ≡ Some part
      → slice_get (opened bytes ring parts).slots l ≡ Some (slots.Open (started part.0 ring.secrets ring.power journal_entries bytes))
  slot-is bytes parts l part at =
      slice_get-map (λ (v : V). slots.Open (started v ring.secrets ring.power journal_entries bytes)) (volumes_in parts) l
      ∙ ap (option_map (λ (v : V). slots.Open (started v ring.secrets ring.power journal_entries bytes)))
      (slice_get-map (λ (p : V × K). p.0) parts l ∙ ap (option_map (λ (p : V × K). p.0)) at)

  -- and its container lock begins over the keeper
  pub lock-is : (bytes : ℕ) (parts : List (V × K)) (l : ℕ) (part : V × K) → slice_get parts l ≡ Some part
      → slice_get (opened bytes ring parts).containers l ≡ Some (cont_slots.Open (begun part.1))
  lock-is bytes parts l part at =
      slice_get-map (λ (k : K). cont_slots.Open (begun k)) (keepers_in parts) l
      ∙ ap (option_map (λ (k : K). cont_slots.Open (begun k)))
      (slice_get-map (λ (p : V × K). p.1) parts l ∙ ap (option_map (λ (p : V × K). p.1)) at)

  pub objects-compose : ObjectsCompose tells files faults keeps first ring
  objects-compose bytes more rests mid rests_now one other device hash here told = record {
    told = now-told;
    begins = value ∙ before.value told;
    part = after.part;
    resting = after.resting;
    stands = after.stands now-told
        ∙ (ap (λ (s : State). state_of (writes_of s ++ writes_at other.machine device hash)) (held ∙ before.stands told)
        ∙ joined-twice ((began tells files faults keeps first ring one).objects.holds device hash).state (writes_at one.machine device hash)
        (writes_at other.machine device hash));
    order = after.order now-told;
  }
    where
      before : IsStored tells files faults keeps ring (opened bytes ring one.parts) one.machine mid device hash
      before = one.stored device hash here

      after : IsStored tells files faults keeps ring (opened more ring other.parts) other.machine rests_now device hash
      after = other.stored device hash here

      at : slice_get (opened more ring other.parts).slots (lock_of ring.lock_bits ring.power device hash)
          ≡ Some (slots.Open (started before.part.0 ring.secrets ring.power journal_entries more))
      at = slot-is more other.parts (lock_of ring.lock_bits ring.power device hash) before.part
          (starts-with mid other.parts other.started other.count device hash before.part here before.resting)

      now-told : ((began tells files faults keeps first ring other).objects.seen (lock_of ring.lock_bits ring.power device hash)).told ≡ true
      now-told = ap (λ (o : Option (Slot V)). (seen_of tells files faults o).told) at ∙ before.order told

      value : (began tells files faults keeps first ring other).objects.holds device hash ≡ value_at ring.secrets ring.power (files before.part.0) hash
      value = ap (λ (o : Option (Slot V)). held_of tells files faults o hash) at
          ∙ values-told tells files faults (started before.part.0 ring.secrets ring.power journal_entries more) hash (before.order told)

      held : ((began tells files faults keeps first ring other).objects.holds device hash).state ≡ holds ring.secrets ring.power (files before.part.0) hash
      held = ap (λ (v : ObjValue). v.state) value

  pub where-told : (k : K) (place : Place) → keeps.tells k ≡ true → cont_held_of keeps.tells keeps.holds keeps.faults (Some (cont_slots.Open (begun k))) place
      ≡ keeps.holds k place
  where-told k place told = by (keeps.tells k) told
    where
      by : (b : Bool) → b ≡ true → (if b then keeps.holds k place else None) ≡ keeps.holds k place
      by true is = refl
      by false is = cc

  pub tables-compose : TablesCompose tells files faults keeps first ring
  tables-compose bytes more rests mid rests_now one other device place here told = record {
    told = now-told;
    begins = ap (λ (o : Option (ContSlot K)). cont_held_of keeps.tells keeps.holds keeps.faults o place) at
        ∙ (where-told before.part.1 place (before.told told) ∙ before.stands told);
    part = after.part;
    resting = after.resting;
    tells_on = after.told now-told;
    stands = after.stands now-told;
  }
    where
      before : IsKept tells files faults keeps ring (opened bytes ring one.parts) one.machine mid device place
      before = one.kept device place here

      after : IsKept tells files faults keeps ring (opened more ring other.parts) other.machine rests_now device place
      after = other.kept device place here

      at : slice_get (opened more ring other.parts).containers (place_lock ring.lock_bits ring.power device place) ≡ Some
          (cont_slots.Open (begun before.part.1))
      at = lock-is more other.parts (place_lock ring.lock_bits ring.power device place) before.part
          (starts-with mid other.parts other.started other.count device place.hash before.part here before.resting)

      now-told : ((began tells files faults keeps first ring other).containers.seen (place_lock ring.lock_bits ring.power device place)).told ≡ true
      now-told = ap (λ (o : Option (ContSlot K)). (cont_seen_of keeps.tells keeps.holds keeps.faults o).told) at ∙ before.told told

  pub runs-lead : RunsLead tells files faults keeps first ring
  runs-lead rests rests_now stores stores_now source sink clock clock_now trail status run = record {
    parts = run.parts;
    started = run.started;
    count = run.count;
    lines = run.over.told.lines;
    machine = run.over.told.machine;
    run = run.over.told.run;
    stored = run.over.told.stored;
    kept = run.over.told.kept;
  }

  pub serving-leads : ServingLeads tells files faults keeps first ring
  serving-leads rests rests_now port connections doors doors_now out clock clock_now stores stores_now status serving = record {
    parts = serving.parts;
    started = serving.started;
    count = serving.count;
    lines = serving.over.served.lines;
    machine = serving.over.served.machine;
    run = serving.over.served.run;
    stored = serving.over.served.stored;
    kept = serving.over.served.kept;
  }
