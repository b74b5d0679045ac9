-- What rests behind a command is sound to begin with: it is what the machine has to which the command led.
use Rattle.std.proofs.Common.{◌≡◌, ℕ, ◌+◌, ◌*◌, ◌^◌, ◌<◌, ◌≤◌, Bool, true, List, [], length, ◌⊎◌, inl, inr, refl, sym, ◌∙◌, ap, subst, arith}
use Rattle.std.proofs.Common.{Option, None, Some}
use Rattle.std.specs.List.{slice_get}
use Rattle.std.specs.Option.{option_map}
use Rattle.std.proofs.lemmas.Bool.{cases_lt}
use Rattle.std.proofs.lemmas.Option.{slice_get-map, slice_get_past}
use Rattle.sw_account_laws.proofs.Staying.{accounts-stay}
use Rattle.sw_account_laws.specs.Accounts.{Account}
use Rattle.sw_account_laws.specs.Laws.{HoldsTheSame}
use Rattle.sw_account_laws.specs.Sound.{IsSound}
use Rattle.sw_container_locks.specs.Halves.{cont_held_of, cont_seen_of}
use Rattle.sw_container_locks.specs.Slots.{begun}
use Rattle.sw_container_locks.specs.declared.cont_slot.ContSlot.{ContSlot}
use Rattle.sw_container_locks.specs.declared.cont_slot.ContSlot.TheVariants as cont_slots
use Rattle.sw_container_steps.specs.Halves.{ContHalf}
use Rattle.sw_core.specs.Limits.{journal_entries}
use Rattle.sw_core.specs.Worlds.{AllNodes, KeeperSeen, held_of, keepers_in, lock_of, opened, place_lock, seen_of, sight_of, stripe_at, volumes_in}
use Rattle.sw_core.specs.declared.slot.Slot.{Slot}
use Rattle.sw_core.specs.declared.slot.Slot.TheVariants as slots
use Rattle.sw_hashpath.specs.HashParts.{partition_of}
use Rattle.sw_hashpath.specs.declared.name.Name.{Name}
use Rattle.sw_hashpath.specs.declared.place.Place.{Place}
use Rattle.sw_listing_laws.specs.Plain.{Cluster}
use Rattle.sw_machine.proofs.Honesty.{honest-leaving}
use Rattle.sw_machine.specs.Doors.{StandsFor}
use Rattle.sw_machine.specs.Honest.{RunsHonestly}
use Rattle.sw_machine.specs.Machine.{Machine}
use Rattle.sw_objdir.proofs.Looking.{values-told}
use Rattle.sw_objdir.specs.Directories.{started}
use Rattle.sw_object_steps.specs.Halves.{ObjHalf}
use Rattle.sw_object_steps.specs.Journals.{Hash}
use Rattle.sw_pass.specs.Rings.{replicas_in}
use Rattle.sw_peer.specs.Sights.{Sight}
use Rattle.sw_quiet.specs.Quiet.{quiet_sight_of}
use Rattle.sw_ring.specs.declared.ring.Ring.{Ring}
use Rattle.sw_shard_range.specs.Names.{is_hidden}
use Rattle.sw_stores.specs.Starting.{AreStarted}
use Rattle.sw_volume.specs.Tree.{Folders}
use Rattle.sw_cluster.proofs.Composing.{lock-is, slot-is, starts-with, where-told}
use Rattle.sw_cluster.proofs.Shown.{led-to, stays}
use Rattle.sw_cluster.proofs.Storing.{past-all}
use Rattle.sw_cluster.specs.Ending.{HasNoOthers, IsKept, IsStored}
use Rattle.sw_cluster.specs.Holding.{ring_nodes}
use Rattle.sw_cluster.specs.Lasting.{BeginSound, LeavesSound, ServingLeavesSound, SessionsLeaveSound}
use Rattle.sw_cluster.specs.Limits.{run_bytes, serve_bytes}
use Rattle.sw_cluster.specs.Listing.{cluster_of}
use Rattle.sw_cluster.specs.Shown.{IsFair, LeadsTo, StaysSound, start}

module _ {V K : Type 0} (tells : V → Bool) (files : V → Folders) (faults : V → ℕ) (keeps : KeeperSeen K) (first : V × K → Type 0) (ring : Ring) where
  abbrev see : AllNodes V K → Sight
  see w = sight_of tells files faults keeps w

  -- ---- nodes that begin with some parts

  module _ (bytes : ℕ) (parts : List (V × K)) (count : length parts ≡ length ring.devices * 2 ^ ring.lock_bits) where
    abbrev now : AllNodes V K
    now = opened bytes ring parts

    -- past the locks of the ring's devices there is nothing
    none-past : (device : ℕ) (hash : Hash) → length ring.devices ≤ device → slice_get parts (lock_of ring.lock_bits ring.power device hash) ≡ None
    none-past device hash beyond =
        slice_get_past parts (lock_of ring.lock_bits ring.power device hash)
        (subst (λ (n : ℕ). n ≤ lock_of ring.lock_bits ring.power device hash) (sym count)
        (past-all device (length ring.devices) (stripe_at ring.lock_bits ring.power (partition_of hash ring.power)) (2 ^ ring.lock_bits) beyond))

    no-slot : (l : ℕ) → slice_get parts l ≡ None → slice_get now.slots l ≡ None
    no-slot l none =
        slice_get-map (λ (v : V). slots.Open (started v ring.secrets ring.power journal_entries bytes)) (volumes_in parts) l
        ∙ ap (option_map (λ (v : V). slots.Open (started v ring.secrets ring.power journal_entries bytes)))
        (slice_get-map (λ (p : V × K). p.0) parts l ∙ ap (option_map (λ (p : V × K). p.0)) none)

    no-lock : (l : ℕ) → slice_get parts l ≡ None → slice_get now.containers l ≡ None
    no-lock l none =
        slice_get-map (λ (k : K). cont_slots.Open (begun k)) (keepers_in parts) l
        ∙ ap (option_map (λ (k : K). cont_slots.Open (begun k)))
        (slice_get-map (λ (p : V × K). p.1) parts l ∙ ap (option_map (λ (p : V × K). p.1)) none)

  -- ---- what a command left

  module _ (began : AllNodes V K) (machine : Machine) (rests : ℕ → ℕ → Option (V × K))
      (stored : (device : ℕ) (hash : Hash) → device < length ring.devices → IsStored tells files faults keeps ring began machine rests device hash)
      (kept : (device : ℕ) (place : Place) → device < length ring.devices → IsKept tells files faults keeps ring began machine rests device place)
      (others : HasNoOthers ring machine)
      (told : (device : ℕ) (hash : Hash) → ((see began).objects.seen (lock_of ring.lock_bits ring.power device hash)).told ≡ true)
      (told_place : (device : ℕ) (place : Place) → ((see began).containers.seen (place_lock ring.lock_bits ring.power device place)).told ≡ true)
      (bytes : ℕ) (parts : List (V × K)) (are : AreStarted first rests (2 ^ ring.lock_bits) 0 parts)
      (count : length parts ≡ length ring.devices * 2 ^ ring.lock_bits) where
    abbrev next : AllNodes V K
    next = opened bytes ring parts

    -- what stands under a hash of a device as the next one begins, and whether its lock tells it
    record Begins (device : ℕ) (hash : Hash) : Type 0 where
      tells_on : ((see next).objects.seen (lock_of ring.lock_bits ring.power device hash)).told ≡ true
      same : (see next).objects.holds device hash ≡ machine.objects.half.holds device hash

    begins : (device : ℕ) (hash : Hash) → (device < length ring.devices) ⊎ (length ring.devices ≤ device) → Begins device hash
    begins device hash (inl here) =
        let before = stored device hash here in
        let at = slot-is tells files faults keeps first ring bytes parts (lock_of ring.lock_bits ring.power device hash) before.part
        (starts-with tells files faults keeps first ring rests parts are count device hash before.part here before.resting) in
        record {
          tells_on = ap (λ (o : Option (Slot V)). (seen_of tells files faults o).told) at ∙ before.order (told device hash);
          same = ap (λ (o : Option (Slot V)). held_of tells files faults o hash) at
              ∙ (values-told tells files faults (started before.part.0 ring.secrets ring.power journal_entries bytes) hash (before.order (told device hash))
              ∙ before.value (told device hash));
        }
    begins device hash (inr beyond) =
        let at = no-slot bytes parts count (lock_of ring.lock_bits ring.power device hash) (none-past bytes parts count device hash beyond) in
        record {
          tells_on = ap (λ (o : Option (Slot V)). (seen_of tells files faults o).told) at;
          same = ap (λ (o : Option (Slot V)). held_of tells files faults o hash) at ∙ sym (others.objects device hash beyond);
        }

    -- the same of a container
    record BeginsAt (device : ℕ) (place : Place) : Type 0 where
      tells_on : ((see next).containers.seen (place_lock ring.lock_bits ring.power device place)).told ≡ true
      same : (see next).containers.holds device place ≡ machine.containers.half.holds device place

    begins-at : (device : ℕ) (place : Place) → (device < length ring.devices) ⊎ (length ring.devices ≤ device) → BeginsAt device place
    begins-at device place (inl here) =
        let before = kept device place here in
        let at = lock-is tells files faults keeps first ring bytes parts (place_lock ring.lock_bits ring.power device place) before.part
        (starts-with tells files faults keeps first ring rests parts are count device place.hash before.part here before.resting) in
        record {
          tells_on = ap (λ (o : Option (ContSlot K)). (cont_seen_of keeps.tells keeps.holds keeps.faults o).told) at ∙ before.told (told_place device place);
          same = ap (λ (o : Option (ContSlot K)). cont_held_of keeps.tells keeps.holds keeps.faults o place) at
              ∙ (where-told tells files faults keeps first ring before.part.1 place (before.told (told_place device place))
              ∙ before.stands (told_place device place));
        }
    begins-at device place (inr beyond) =
        let at = no-lock bytes parts count (place_lock ring.lock_bits ring.power device place) (none-past bytes parts count device place.hash beyond) in
        record {
          tells_on = ap (λ (o : Option (ContSlot K)). (cont_seen_of keeps.tells keeps.holds keeps.faults o).told) at;
          same = ap (λ (o : Option (ContSlot K)). cont_held_of keeps.tells keeps.holds keeps.faults o place) at ∙ sym (others.containers device place beyond);
        }

    -- so it begins as another machine that has the same ended
    pub begin-sound : (names : Hash → Name) (root : Place → Place) (ended : Machine) (account : Account) → ended.objects.half ≡ machine.objects.half
        → ended.containers.half ≡ machine.containers.half → IsSound (cluster_of ring is_hidden names) root ended account
        → IsSound (cluster_of ring is_hidden names) root (start ring (see next) account) account
    begin-sound names root ended account objects containers sound =
        accounts-stay (cluster_of ring is_hidden names) root ended account (start ring (see next) account) sound (record {
          objects = λ device hash. (begins device hash (cases_lt device (length ring.devices))).same
              ∙ ap (λ (o : ObjHalf). o.holds device hash) (sym objects);
          containers = λ device place. (begins-at device place (cases_lt device (length ring.devices))).same
              ∙ ap (λ (o : ContHalf). o.holds device place) (sym containers);
          objects_tell = λ device hash. (begins device hash (cases_lt device (length ring.devices))).tells_on;
          containers_tell = λ device place. (begins-at device place (cases_lt device (length ring.devices))).tells_on;
          known = sym sound.known;
          quiet = refl;
        })

  -- ---- commands

  -- nodes that are looked at through either sight
  module _ (look : AllNodes V K → Sight) (objects_are : (w : AllNodes V K) → (look w).objects ≡ (see w).objects)
      (containers_are : (w : AllNodes V K) → (look w).containers ≡ (see w).containers) (began last : AllNodes V K)
      (begins_so : (look began).nodes ≡ ring_nodes ring) (comes : RunsHonestly ring.secrets (replicas_in ring) (look began) (look last))
      (machine : Machine) (stands : StandsFor (look last) machine) (rests : ℕ → ℕ → Option (V × K))
      (stored : (device : ℕ) (hash : Hash) → device < length ring.devices → IsStored tells files faults keeps ring began machine rests device hash)
      (kept : (device : ℕ) (place : Place) → device < length ring.devices → IsKept tells files faults keeps ring began machine rests device place)
      (others : HasNoOthers ring machine) where
    pub leaves-sound : LeavesSound tells files faults keeps first ring (look began) (look last) rests
    leaves-sound = record {
      led = led-to look ring began begins_so last comes;
      sound = λ account leads names root fair.
          let on = stays look ring began begins_so account names root last leads fair in (
            on,
            λ bytes parts are count.
                begin-sound began machine rests stored kept others
                (λ device hash. ap (λ (o : ObjHalf). (o.seen (lock_of ring.lock_bits ring.power device hash)).told) (sym (objects_are began))
                ∙ fair.sound.objects_tell device hash)
                (λ device place. ap (λ (o : ContHalf). (o.seen (place_lock ring.lock_bits ring.power device place)).told) (sym (containers_are began))
                ∙ fair.sound.containers_tell device place)
                bytes parts are count names root (record leads.machine { sent = [] }) on.later (sym leads.stands.objects ∙ stands.objects)
                (sym leads.stands.containers ∙ stands.containers) on.sound,
          );
    }

  pub sessions-leave-sound : SessionsLeaveSound tells files faults keeps first ring
  sessions-leave-sound rests rests_now stores stores_now source sink clock clock_now trail status run =
      let told = run.over.told in
      leaves-sound see (λ w. refl) (λ w. refl) (opened run_bytes ring run.parts) told.last refl told.comes told.machine told.stands rests_now told.stored
      told.kept told.others

  abbrev see_quietly : AllNodes V K → Sight
  see_quietly w = quiet_sight_of tells files faults keeps w

  pub serving-leaves-sound : ServingLeavesSound tells files faults keeps first ring
  serving-leaves-sound rests rests_now port connections doors doors_now out clock clock_now stores stores_now status serving =
      let served = serving.over.served in
      leaves-sound see_quietly (λ w. refl) (λ w. refl) (opened serve_bytes ring serving.parts) serving.over.after refl
      (honest-leaving ring.secrets (replicas_in ring) (see_quietly (opened serve_bytes ring serving.parts)) (see_quietly serving.over.after) served.comes)
      served.machine served.stands rests_now served.stored served.kept served.others
