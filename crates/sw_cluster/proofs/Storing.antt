-- What the files of a world's volumes stand for where they rest, and which tables its keepers have.
use Rattle.std.proofs.Common.{◌≡◌, ℕ, zero, suc, ◌+◌, ◌-◌, ◌*◌, ◌/◌, ◌%◌, ◌^◌, ◌<◌, ◌≤◌, Bool, true, false, ◌&&◌, List, [], ◌∷◌, ◌++◌, length, arith}
use Rattle.std.proofs.Common.{Option, Some, None, if◌then◌else◌, refl, sym, ◌∙◌, ap, subst, ◌⊎◌, inl, inr}
use Rattle.std.specs.List.{All, slice_get}
use Rattle.std.proofs.lemmas.List.Elements.{All-get_or}
use Rattle.std.proofs.lemmas.Option.{get_or_from_slice_get, slice_get_past, slice_get_within}
use Rattle.std.proofs.lemmas.Bool.{cases_lt}
use Rattle.std.proofs.lemmas.Nat.{div-mul-add, mod-mul-add, pow_pos, rows}
use Rattle.sw_container_db.specs.ContDirs.{ContKept}
use Rattle.sw_container_locks.specs.Halves.{cont_held_of, cont_seen_of}
use Rattle.sw_container_locks.specs.Slots.{AreLifted as AreLiftedLocks, AreLocks, IsOpen}
use Rattle.sw_container_locks.specs.declared.cont_slot.ContSlot.{ContSlot}
use Rattle.sw_container_locks.specs.declared.cont_slot.ContSlot.TheVariants as cont_slots
use Rattle.sw_container_steps.specs.Halves.{ContHalf}
use Rattle.sw_container_steps.specs.Rules.{ContHistory}
use Rattle.sw_hashpath.specs.HashParts.{partition_of}
use Rattle.sw_hashpath.specs.declared.place.Place.{Place}
use Rattle.sw_hashdir.specs.Places.{holds}
use Rattle.sw_objdir.proofs.Looking.{held-told, values-told}
use Rattle.sw_objdir.specs.Directories.{Kept, are_in_order, is_told, value_at}
use Rattle.sw_object_steps.specs.Journals.{Hash}
use Rattle.sw_peer.specs.Sights.{Nodes as SightNodes, Sight}
use Rattle.sw_ring.specs.declared.ring.Ring.{Ring}
use Rattle.sw_state.specs.States.{state_of, writes_of}
use Rattle.sw_state.specs.declared.state.State.{State}
use Rattle.sw_stores.proofs.AtPlaces.{resting-at}
use Rattle.sw_stores.specs.Places.{at_place}
use Rattle.sw_stores.specs.Starting.{AreResting}
use Rattle.sw_volume.specs.Tree.{Folders}
use Rattle.sw_core.proofs.Containing.{open-there}
use Rattle.sw_core.proofs.Keeping.{out-cases}
use Rattle.sw_core.proofs.Placed.{stripe-below}
use Rattle.sw_core.proofs.Wholes.{open-at}
use Rattle.sw_machine.proofs.Runs.{hashes-stand, rows-are-merged}
use Rattle.sw_machine.specs.Machine.{KnownWrite, Machine, RunLine, Runs, machine_of, writes_among, writes_at}
use Rattle.sw_object_steps.specs.Halves.{ObjHalf}
use Rattle.sw_object_steps.specs.Rules.{ObjHistory}
use Rattle.sw_object_steps.specs.Values.{ObjValue}
use Rattle.sw_core.specs.Worlds.{AllNodes, AreContainers, AreLifted, HasLimits, IsContSlot, IsWorld, KeeperSeen, Lifts, SlotTellsOn, TellsOn, first_of}
use Rattle.sw_core.specs.Worlds.{held_of, is_out, keepers_in, lock_of, nodes_of, past_of, place_lock, seen_of, shown, sight_of, stripe_at, volumes_in}
use Rattle.sw_core.specs.declared.slot.Slot.{Slot}
use Rattle.sw_core.specs.declared.slot.Slot.TheVariants as slots
use Rattle.sw_cluster.proofs.Resting.{among-place}
use Rattle.sw_cluster.specs.Ending.{HasNoOthers, IsKept, IsStored}
use Rattle.sw_nodes.specs.Nodes.{places_at}

-- a world none of whose devices is out has as many as are shown
pub same-devices : (lifted : Option ℕ) (devices n : ℕ) → lifted ≡ None → shown lifted devices ≡ n → devices ≡ n
same-devices lifted devices n whole is = sym (ap (λ (o : Option ℕ). shown o devices) whole) ∙ is

where-true : {A : Type 0} (b : Bool) (x y : A) → b ≡ true → (if b then x else y) ≡ x
where-true true x y is = refl
where-true false x y is = cc

some-is : {A : Type 0} {x y : A} → Some x ≡ Some y → x ≡ y
some-is is = cc

-- a row of so many is past all rows before it
pub past-all : (d n s b : ℕ) → n ≤ d → n * b ≤ d * b + s
past-all d n s b beyond = grind (arith, rows)

-- where the volume is that of one pair, and the keeper too, the pair is there
pair-at : {V K : Type 0} (parts : List (V × K)) (i : ℕ) (v : V) (k : K) → slice_get (volumes_in parts) i ≡ Some v → slice_get (keepers_in parts) i ≡ Some k
    → slice_get parts i ≡ Some (v, k)
pair-at [] i v k volume keeper = cc
pair-at {V} {K} (part ∷ parts) zero v k volume keeper =
    ap Some (subst (λ (x : V). part ≡ (x, k)) (some-is volume) (subst (λ (x : K). part ≡ (part.0, x)) (some-is keeper) refl))
pair-at (part ∷ parts) (suc i) v k volume keeper = pair-at parts i v k volume keeper

module _ {V K : Type 0} (tells : V → Bool) (files : V → Folders) (faults : V → ℕ) (keeps : KeeperSeen K) (ring : Ring) where
  lock-same : (w : AllNodes V K) → w.lock_bits ≡ ring.lock_bits → w.power ≡ ring.power → (device : ℕ) (hash : Hash)
      → lock_of w.lock_bits w.power device hash ≡ lock_of ring.lock_bits ring.power device hash
  lock-same w bits power device hash = ap (λ (b : ℕ). lock_of b w.power device hash) bits ∙ ap (λ (p : ℕ). lock_of ring.lock_bits p device hash) power

  -- ---- what rests

  abbrev see : AllNodes V K → Sight
  see w = sight_of tells files faults keeps w

  -- each directory that told its contents, and was in order, does so still; the container locks beside them are there, and their keepers tell on
  pub record AllTellOn (w : AllNodes V K) : Type 0 where
    pub volumes : (l : ℕ) (k : Kept V) → slice_get w.slots l ≡ Some (slots.Open k) → TellsOn tells files faults k
    pub containers : AreContainers w.devices w.lock_bits w.lifted w.containers
    pub keepers : AreLocks keeps.tells w.containers

  pub all-tell-on : (w : AllNodes V K) → All (SlotTellsOn tells files faults) w.slots → AreContainers w.devices w.lock_bits w.lifted w.containers
      → AreLocks keeps.tells w.containers → AllTellOn w
  all-tell-on w all are locks = record {
    volumes = λ l k at.
        subst (SlotTellsOn tells files faults) (get_or_from_slice_get w.slots l (slots.Open k) (slots.Open k) at)
        (All-get_or (SlotTellsOn tells files faults) w.slots l (slots.Open k) (slice_get_within w.slots l (slots.Open k) at) all);
    containers = are;
    keepers = locks;
  }

  -- the volume of each open directory rests at its place, with the keeper of the lock beside it
  abbrev pub AllRest : (ℕ → ℕ → Option (V × K)) → AllNodes V K → Type 0
  AllRest rests w = (l : ℕ) (k : Kept V) (c : ContKept K) → slice_get w.slots l ≡ Some (slots.Open k) → slice_get w.containers l ≡ Some (cont_slots.Open c)
      → at_place rests (2 ^ ring.lock_bits) l ≡ Some (k.volume, c.keeper)

  abbrev ring_nodes : SightNodes
  ring_nodes = nodes_of (length ring.devices) ring.lock_bits ring.power ring.secrets

  -- a world that stands for a machine after a run from another one, none of whose devices is out, and whose volumes and keepers came to rest at the places
  -- of their locks
  module _ (began w : AllNodes V K) (is : IsWorld w) (whole : w.lifted ≡ None)
      (nodes : nodes_of (shown w.lifted w.devices) w.lock_bits w.power w.secrets ≡ nodes_of (length ring.devices) ring.lock_bits ring.power ring.secrets)
      (lines : List RunLine) (machine : Machine) (run : Runs ring_nodes (machine_of (see began)) lines machine)
      (rests : ℕ → ℕ → Option (V × K)) (resting : AllRest rests w) (told_on : AllTellOn w) where
    devices-are : w.devices ≡ length ring.devices
    devices-are = same-devices w.lifted w.devices (length ring.devices) whole (ap (λ (n : SightNodes). n.devices) nodes)

    bits-are : w.lock_bits ≡ ring.lock_bits
    bits-are = ap (λ (n : SightNodes). n.lock_bits) nodes

    power-are : w.power ≡ ring.power
    power-are = ap (λ (n : SightNodes). n.power) nodes

    -- what stands at the locks of a hash of a device: an open directory, and beside it an open container lock, whose volume and keeper rest at its place
    record Stands (device : ℕ) (hash : Hash) : Type 0 where
      kept : Kept V
      at : slice_get w.slots (lock_of ring.lock_bits ring.power device hash) ≡ Some (slots.Open kept)
      secrets : kept.secrets ≡ ring.secrets
      power : kept.power ≡ ring.power
      lock : ContKept K
      beside : slice_get w.containers (lock_of ring.lock_bits ring.power device hash) ≡ Some (cont_slots.Open lock)
      at_rest : rests device (stripe_at ring.lock_bits ring.power (partition_of hash ring.power)) ≡ Some (kept.volume, lock.keeper)

    stands-at : (device : ℕ) (hash : Hash) → device < length ring.devices → Stands device hash
    stands-at device hash here =
        by (open-at w is whole (lock_of ring.lock_bits ring.power device hash) (within (length w.slots) is.count))
        (open-there w.devices w.lock_bits w.containers w.lifted told_on.containers whole (lock_of ring.lock_bits ring.power device hash)
        (within (length w.containers) (told_on.containers.count)))
      where
        low : stripe_at ring.lock_bits ring.power (partition_of hash ring.power) < 2 ^ ring.lock_bits
        low = stripe-below ring.lock_bits ring.power (partition_of hash ring.power)

        within : (count : ℕ) → count ≡ w.devices * 2 ^ w.lock_bits → lock_of ring.lock_bits ring.power device hash < count
        within count counted = rw (counted, devices-are, bits-are) (under device (length ring.devices)
            (stripe_at ring.lock_bits ring.power (partition_of hash ring.power)) (2 ^ ring.lock_bits) here low)
          where
            under : (d n s b : ℕ) → d < n → s < b → d * b + s < n * b
            under d n s b h g = grind (arith, rows)

        by : (k : Kept V) × (slice_get w.slots (lock_of ring.lock_bits ring.power device hash) ≡ Some (slots.Open k)) × (k.secrets ≡ w.secrets) ×
            (k.power ≡ w.power) × HasLimits w.max_bytes k
            → (c : ContKept K) × (slice_get w.containers (lock_of ring.lock_bits ring.power device hash) ≡ Some (cont_slots.Open c))
            → Stands device hash
        by there other = record {
          kept = there.0;
          at = there.1;
          secrets = there.2 ∙ ap (λ (n : SightNodes). n.secrets) nodes;
          power = there.3 ∙ ap (λ (n : SightNodes). n.power) nodes;
          lock = other.0;
          beside = other.1;
          at_rest = subst (λ (s : ℕ). rests device s ≡ Some (there.0.volume, other.0.keeper))
              (mod-mul-add device (2 ^ ring.lock_bits) (stripe_at ring.lock_bits ring.power (partition_of hash ring.power)) low)
              (subst (λ (d : ℕ). rests d (lock_of ring.lock_bits ring.power device hash % 2 ^ ring.lock_bits) ≡ Some (there.0.volume, other.0.keeper))
              (div-mul-add device (2 ^ ring.lock_bits) (stripe_at ring.lock_bits ring.power (partition_of hash ring.power)) low)
              (resting (lock_of ring.lock_bits ring.power device hash) there.0 other.0 there.1 other.1));
        }

    -- what a hash whose lock told its contents stands for in the end
    hash-stands : (device : ℕ) (hash : Hash) → ((see began).objects.seen (lock_of ring.lock_bits ring.power device hash)).told ≡ true
        → ((machine.objects.half.seen (lock_of ring.lock_bits ring.power device hash)).told ≡ true)
        × ((machine.objects.half.holds device hash).state
        ≡ state_of (writes_of ((see began).objects.holds device hash).state ++ writes_at machine device hash))
    hash-stands device hash told =
        let goes = hashes-stand ring_nodes (machine_of (see began)) lines machine run in
        let one = goes.hash device hash told in (
          one.told,
          one.stands ∙ ap (λ (known : List (ℕ × KnownWrite)).
              state_of (writes_of ((see began).objects.holds device hash).state ++ writes_among known device hash)) (sym goes.known),
        )

    pub stored : (see w).objects ≡ machine.objects.half → (device : ℕ) (hash : Hash) → device < length ring.devices
        → IsStored tells files faults keeps ring began machine rests device hash
    stored objects device hash here = by (stands-at device hash here)
      where
        all : State
        all = state_of (writes_of ((see began).objects.holds device hash).state ++ writes_at machine device hash)

        by : Stands device hash → IsStored tells files faults keeps ring began machine rests device hash
        by there =
            let seen : seen_of tells files faults (Some (slots.Open there.kept)) ≡ machine.objects.half.seen (lock_of ring.lock_bits ring.power device hash) =
            sym (ap (seen_of tells files faults) there.at) ∙ ap (λ (o : ObjHalf). o.seen (lock_of ring.lock_bits ring.power device hash)) objects in
            let held : held_of tells files faults (Some (slots.Open there.kept)) hash ≡ machine.objects.half.holds device hash =
            sym (ap (λ (o : Option (Slot V)). held_of tells files faults o hash) there.at)
            ∙ (ap (λ (l : ℕ). held_of tells files faults (slice_get w.slots l) hash) (sym (lock-same w bits-are power-are device hash))
            ∙ ap (λ (o : ObjHalf). o.holds device hash) objects) in
            record {
              part = (there.kept.volume, there.lock.keeper);
              resting = there.at_rest;
              stands = λ told.
                  let stands = hash-stands device hash told in
                  let is_told : is_told tells files faults there.kept ≡ true = ap (λ (h : ObjHistory). h.told) seen ∙ stands.0 in
                  subst (λ (s : _). holds s ring.power (files there.kept.volume) hash ≡ all) there.secrets
                  (subst (λ (p : ℕ). holds there.kept.secrets p (files there.kept.volume) hash ≡ all) there.power
                  (sym (held-told tells files faults there.kept hash is_told) ∙ (ap (λ (v : ObjValue). v.state) held ∙ stands.1)));
              value = λ told.
                  let is_told : is_told tells files faults there.kept ≡ true =
                  ap (λ (h : ObjHistory). h.told) seen ∙ (hash-stands device hash told).0 in
                  subst (λ (s : _). value_at s ring.power (files there.kept.volume) hash ≡ machine.objects.half.holds device hash) there.secrets
                  (subst (λ (p : ℕ). value_at there.kept.secrets p (files there.kept.volume) hash ≡ machine.objects.half.holds device hash) there.power
                  (sym (values-told tells files faults there.kept hash is_told) ∙ held));
              order = λ told.
                  let is_told : is_told tells files faults there.kept ≡ true =
                  ap (λ (h : ObjHistory). h.told) seen ∙ (hash-stands device hash told).0 in
                  subst (λ (s : _). (tells there.kept.volume && are_in_order s ring.power (files there.kept.volume)) ≡ true) there.secrets
                  (subst (λ (p : ℕ). (tells there.kept.volume && are_in_order there.kept.secrets p (files there.kept.volume)) ≡ true) there.power
                  (told_on.volumes (lock_of ring.lock_bits ring.power device hash) there.kept there.at is_told));
              counts = sym (ap (λ (h : ObjHistory). h.faults) seen);
            }

    -- a keeper that told its tables tells what its machine has
    pub kept : (see w).containers ≡ machine.containers.half → (device : ℕ) (place : Place) → device < length ring.devices
        → IsKept tells files faults keeps ring began machine rests device place
    kept containers device place here = by (stands-at device place.hash here)
      where
        by : Stands device place.hash → IsKept tells files faults keeps ring began machine rests device place
        by there =
            let seen : cont_seen_of keeps.tells keeps.holds keeps.faults (Some (cont_slots.Open there.lock))
            ≡ machine.containers.half.seen (place_lock ring.lock_bits ring.power device place) =
            sym (ap (cont_seen_of keeps.tells keeps.holds keeps.faults) there.beside)
            ∙ ap (λ (c : ContHalf). c.seen (place_lock ring.lock_bits ring.power device place)) containers in
            let held : cont_held_of keeps.tells keeps.holds keeps.faults (Some (cont_slots.Open there.lock)) place ≡ machine.containers.half.holds device place
            =
            sym (ap (λ (o : Option (ContSlot K)). cont_held_of keeps.tells keeps.holds keeps.faults o place) there.beside)
            ∙ (ap (λ (l : ℕ). cont_held_of keeps.tells keeps.holds keeps.faults (slice_get w.containers l) place)
            (sym (lock-same w bits-are power-are device place.hash))
            ∙ ap (λ (c : ContHalf). c.holds device place) containers) in
            let tells_on : ((see began).containers.seen (place_lock ring.lock_bits ring.power device place)).told ≡ true → keeps.tells there.lock.keeper ≡ true
            =
            λ told.
            (told_on.keepers (lock_of ring.lock_bits ring.power device place.hash) there.lock there.beside).told
            ∙ (ap (λ (h : ContHistory). h.told) seen
            ∙ ((rows-are-merged ring_nodes (machine_of (see began)) lines machine run).place device place told).told) in
            record {
              part = (there.kept.volume, there.lock.keeper);
              resting = there.at_rest;
              told = tells_on;
              stands = λ told. sym (where-true (keeps.tells there.lock.keeper) (keeps.holds there.lock.keeper place) None (tells_on told)) ∙ held;
              counts = sym (ap (λ (h : ContHistory). h.faults) seen);
            }

    -- the locks of other devices would be past the last one
    past : (count : ℕ) → count ≡ w.devices * 2 ^ w.lock_bits → (device : ℕ) (hash : Hash) → length ring.devices ≤ device
        → count ≤ lock_of ring.lock_bits ring.power device hash
    past count counted device hash beyond =
        rw (counted, devices-are, bits-are) (past-all device (length ring.devices) (stripe_at ring.lock_bits ring.power (partition_of hash ring.power))
        (2 ^ ring.lock_bits) beyond)

    -- so nothing is there
    pub others : (see w).objects ≡ machine.objects.half → (see w).containers ≡ machine.containers.half → HasNoOthers ring machine
    others objects containers = record {
      objects = λ device hash beyond.
          sym (ap (λ (o : ObjHalf). o.holds device hash) objects)
          ∙ (ap (λ (l : ℕ). held_of tells files faults (slice_get w.slots l) hash) (lock-same w bits-are power-are device hash)
          ∙ ap (λ (o : Option (Slot V)). held_of tells files faults o hash)
          (slice_get_past w.slots (lock_of ring.lock_bits ring.power device hash) (past (length w.slots) is.count device hash beyond)));
      containers = λ device place beyond.
          sym (ap (λ (c : ContHalf). c.holds device place) containers)
          ∙ (ap (λ (l : ℕ). cont_held_of keeps.tells keeps.holds keeps.faults (slice_get w.containers l) place)
          (lock-same w bits-are power-are device place.hash)
          ∙ ap (λ (o : Option (ContSlot K)). cont_held_of keeps.tells keeps.holds keeps.faults o place)
          (slice_get_past w.containers (lock_of ring.lock_bits ring.power device place.hash)
          (past (length w.containers) told_on.containers.count device place.hash beyond)));
    }

  -- ---- a device that is out

  -- a device of a world of this ring was lifted
  module _ (whole after : AllNodes V K) (bits : whole.lock_bits ≡ ring.lock_bits) (device : ℕ) (given : List (V × K))
      (up : Lifts tells files faults keeps whole device given after) where
    pub out-is : after.lifted ≡ Some device
    out-is = ap (λ (x : AllNodes V K). x.lifted) up.rest

    lifted-in : AreLifted (first_of ring.lock_bits device) (past_of ring.lock_bits device) whole.slots after.slots (volumes_in given)
    lifted-in = subst (λ (b : ℕ). AreLifted (first_of b device) (past_of b device) whole.slots after.slots (volumes_in given)) bits up.lifted

    locks-in : AreLiftedLocks (first_of ring.lock_bits device) (past_of ring.lock_bits device) whole.containers after.containers (keepers_in given)
    locks-in =
        subst (λ (b : ℕ). AreLiftedLocks (first_of b device) (past_of b device) whole.containers after.containers (keepers_in given)) bits up.containers.lifted

    -- all container locks were there, since those of the device were open and the others stayed
    containers-before : AreContainers whole.devices whole.lock_bits (Some device) after.containers
        → AreContainers whole.devices whole.lock_bits whole.lifted whole.containers
    containers-before are = record {
      count = sym up.containers.lifted.count ∙ are.count;
      slots = λ l here. subst (λ (o : Option ℕ). IsContSlot (is_out whole.lock_bits o l) (slice_get whole.containers l)) (sym up.whole)
          (by l (subst (λ (n : ℕ). l < n) (sym up.containers.lifted.count) here) (out-cases whole.lock_bits device l));
    }
      where
        by : (l : ℕ) → l < length after.containers
            → ((is_out whole.lock_bits (Some device) l ≡ true) × (first_of whole.lock_bits device ≤ l) × (l < past_of whole.lock_bits device))
            ⊎ ((is_out whole.lock_bits (Some device) l ≡ false) × ((l < first_of whole.lock_bits device) ⊎ (past_of whole.lock_bits device ≤ l)))
            → IsOpen whole.containers l
        by l here (inl out) = up.containers.are_open l out.1 out.2
        by l here (inr apart) =
            let there = subst (λ (b : Bool). IsContSlot b (slice_get after.containers l)) apart.0 (are.slots l here) in
            (there.0, sym (up.containers.lifted.outside l apart.1) ∙ there.1)

    -- the directories and the container locks of the device tell on as they were taken out, and the others stayed
    pub tell-before : AllTellOn after → AllTellOn whole
    tell-before told = record {
      volumes = λ l k at. by l k at (cases_lt l (first_of ring.lock_bits device)) (cases_lt l (past_of ring.lock_bits device));
      containers = containers-before (subst (λ (x : AllNodes V K). AreContainers x.devices x.lock_bits x.lifted after.containers) up.rest told.containers);
      keepers = up.containers.locks;
    }
      where
        by : (l : ℕ) (k : Kept V) → slice_get whole.slots l ≡ Some (slots.Open k)
            → (l < first_of ring.lock_bits device) ⊎ (first_of ring.lock_bits device ≤ l) → (l < past_of ring.lock_bits device)
            ⊎ (past_of ring.lock_bits device ≤ l) → TellsOn tells files faults k
        by l k at (inl low) any = told.volumes l k (lifted-in.outside l (inl low) ∙ at)
        by l k at (inr from) (inr behind) = told.volumes l k (lifted-in.outside l (inr behind) ∙ at)
        by l k at (inr from) (inl below) =
            up.told l k (subst (λ (b : ℕ). first_of b device ≤ l) (sym bits) from) (subst (λ (b : ℕ). l < past_of b device) (sym bits) below) at

    -- where the volumes and keepers came to rest that were there before: those of the device are as they rested then
    pub rests-before : (stood now : ℕ → ℕ → Option (V × K)) → AreResting stood (2 ^ ring.lock_bits) (first_of ring.lock_bits device) given
        → AllRest now after
        → ((d : ℕ) → after.lifted ≡ Some d → (e s : ℕ) → places_at ring d e s ≡ true → now e s ≡ stood e s)
        → AllRest now whole
    rests-before stood now there resting same l k c at beside =
        by (cases_lt l (first_of ring.lock_bits device)) (cases_lt l (past_of ring.lock_bits device))
      where
        by : (l < first_of ring.lock_bits device) ⊎ (first_of ring.lock_bits device ≤ l) → (l < past_of ring.lock_bits device)
            ⊎ (past_of ring.lock_bits device ≤ l)
            → at_place now (2 ^ ring.lock_bits) l ≡ Some (k.volume, c.keeper)
        by (inl low) any = resting l k c (lifted-in.outside l (inl low) ∙ at) (locks-in.outside l (inl low) ∙ beside)
        by (inr from) (inr behind) = resting l k c (lifted-in.outside l (inr behind) ∙ at) (locks-in.outside l (inr behind) ∙ beside)
        by (inr from) (inl below) =
            let here : first_of ring.lock_bits device + (l - first_of ring.lock_bits device) ≡ l = omega (arith, from) in
            let within : first_of ring.lock_bits device + (l - first_of ring.lock_bits device) < past_of ring.lock_bits device = omega (arith, from, below) in
            let gives : slice_get given (l - first_of ring.lock_bits device) ≡ Some (k.volume, c.keeper) =
            pair-at given (l - first_of ring.lock_bits device) k.volume c.keeper
            (lifted-in.gives (l - first_of ring.lock_bits device) k within (ap (slice_get whole.slots) here ∙ at))
            (locks-in.gives (l - first_of ring.lock_bits device) c within (ap (slice_get whole.containers) here ∙ beside)) in
            same device out-is (l / 2 ^ ring.lock_bits) (l % 2 ^ ring.lock_bits)
            (among-place (2 ^ ring.lock_bits) (first_of ring.lock_bits device) (2 ^ ring.lock_bits) l (pow_pos ring.lock_bits) from below)
            ∙ subst (λ (p : ℕ). at_place stood (2 ^ ring.lock_bits) p ≡ Some (k.volume, c.keeper)) here
            (resting-at stood (2 ^ ring.lock_bits) (first_of ring.lock_bits device) given
            (l - first_of ring.lock_bits device) (k.volume, c.keeper) there gives)
