-- What two runs come to, one after the other, over what the stores got back from the first. (This project's own.)
use Rattle.std.specs.Prelude.{◌≡◌, ℕ, ◌*◌, ◌^◌, ◌<◌, Bool, true, ◌&&◌, List, ◌++◌, length, Option, Some}
use Rattle.sw_core.specs.Worlds.{KeeperSeen, lock_of, nodes_of, opened, place_lock, sight_of, stripe_at}
use Rattle.sw_hashdir.specs.Places.{holds}
use Rattle.sw_objdir.specs.Directories.{are_in_order}
use Rattle.sw_hashpath.specs.HashParts.{partition_of}
use Rattle.sw_hashpath.specs.declared.place.Place.{Place}
use Rattle.sw_core.specs.declared.trail.Trail.{Trail}
use Rattle.sw_machine.specs.Machine.{Machine, RunLine, Runs, machine_of, writes_at}
use Rattle.sw_object_steps.specs.Journals.{Hash}
use Rattle.sw_peer.specs.Sights.{Sight}
use Rattle.sw_ring.specs.declared.ring.Ring.{Ring}
use Rattle.sw_state.specs.States.{state_of, writes_of}
use Rattle.sw_stores.specs.Starting.{AreStarted}
use Rattle.sw_volume.specs.Tree.{Folders}
use Rattle.sw_cluster.specs.Ending.{IsKept, IsRun, IsStored}
use Rattle.sw_cluster.specs.Limits.{run_bytes, serve_bytes}
use Rattle.sw_cluster.specs.Rounds.{IsServing}
use Rattle.sw_cluster.specs.Told.{Counts, DoorsTold, Input, Output}

module _ {V K : Type 0} (tells : V → Bool) (files : V → Folders) (faults : V → ℕ) (keeps : KeeperSeen K) (first : V × K → Type 0) (ring : Ring) where
  -- what a command made of what rested in the stores, whichever it was: its nodes began with that, a run of the machine came, and what rests then stands for
  -- the machine. The bodies in a journal have at most so many bytes
  pub record Leads (bytes : ℕ) (rests rests_now : ℕ → ℕ → Option (V × K)) : Type 0 where
    pub parts : List (V × K)
    pub started : AreStarted first rests (2 ^ ring.lock_bits) 0 parts
    pub count : length parts ≡ length ring.devices * 2 ^ ring.lock_bits
    pub lines : List RunLine
    pub machine : Machine
    pub run : Runs (nodes_of (length ring.devices) ring.lock_bits ring.power ring.secrets)
        (machine_of (sight_of tells files faults keeps (opened bytes ring parts))) lines machine
    pub stored : (device : ℕ) (hash : Hash) → device < length ring.devices
        → IsStored tells files faults keeps ring (opened bytes ring parts) machine rests_now device hash
    pub kept : (device : ℕ) (place : Place) → device < length ring.devices
        → IsKept tells files faults keeps ring (opened bytes ring parts) machine rests_now device place

  -- with what its nodes began
  abbrev pub began : {bytes : ℕ} {rests rests_now : ℕ → ℕ → Option (V × K)} → Leads bytes rests rests_now → Sight
  began {bytes} leads = sight_of tells files faults keeps (opened bytes ring leads.parts)

  -- a run of a session leads from what rested to what rests then, and so does serving
  abbrev pub RunsLead : Type 0
  RunsLead = (rests rests_now : ℕ → ℕ → Option (V × K)) (stores stores_now : Counts) (source : Input) (sink : Output) (clock clock_now : Option (List ℕ))
      (trail : Trail) (status : ℕ)
      → IsRun tells files faults keeps first ring rests rests_now stores stores_now source sink clock clock_now trail status → Leads run_bytes rests rests_now

  abbrev pub ServingLeads : Type 0
  ServingLeads = (rests rests_now : ℕ → ℕ → Option (V × K)) (port connections : ℕ) (doors doors_now : DoorsTold) (out : Output)
      (clock clock_now : Option (List ℕ)) (stores stores_now : Counts) (status : ℕ)
      → IsServing tells files faults keeps ring first port connections rests rests_now doors doors_now out clock clock_now stores stores_now status
      → Leads serve_bytes rests rests_now

  -- One after the other, where the lock of the hash told its contents as the first began: it tells them as the second begins, which has what the first one's
  -- machine has there, records too. The files that rest in the end stand for what they stood for at first, joined with the writes that reached there in the one
  -- and in the other; and they are in order
  pub record StoredBoth (bytes more : ℕ) (rests mid rests_now : ℕ → ℕ → Option (V × K)) (one : Leads bytes rests mid) (other : Leads more mid rests_now)
      (device : ℕ) (hash : Hash) : Type 0 where
    pub told : ((began other).objects.seen (lock_of ring.lock_bits ring.power device hash)).told ≡ true
    pub begins : (began other).objects.holds device hash ≡ one.machine.objects.half.holds device hash
    pub part : V × K
    pub resting : rests_now device (stripe_at ring.lock_bits ring.power (partition_of hash ring.power)) ≡ Some part
    pub stands : holds ring.secrets ring.power (files part.0) hash
        ≡ state_of (writes_of ((began one).objects.holds device hash).state ++ (writes_at one.machine device hash ++ writes_at other.machine device hash))
    pub order : (tells part.0 && are_in_order ring.secrets ring.power (files part.0)) ≡ true

  abbrev pub ObjectsCompose : Type 0
  ObjectsCompose = (bytes more : ℕ) (rests mid rests_now : ℕ → ℕ → Option (V × K)) (one : Leads bytes rests mid) (other : Leads more mid rests_now)
      (device : ℕ) (hash : Hash) → device < length ring.devices
      → ((began one).objects.seen (lock_of ring.lock_bits ring.power device hash)).told ≡ true
      → StoredBoth bytes more rests mid rests_now one other device hash

  -- the same of a container: the second begins with the tables of the first one's machine, and the keeper that rests in the end has those of the second one's
  pub record KeptBoth (bytes more : ℕ) (rests mid rests_now : ℕ → ℕ → Option (V × K)) (one : Leads bytes rests mid) (other : Leads more mid rests_now)
      (device : ℕ) (place : Place) : Type 0 where
    pub told : ((began other).containers.seen (place_lock ring.lock_bits ring.power device place)).told ≡ true
    pub begins : (began other).containers.holds device place ≡ one.machine.containers.half.holds device place
    pub part : V × K
    pub resting : rests_now device (stripe_at ring.lock_bits ring.power (partition_of place.hash ring.power)) ≡ Some part
    pub tells_on : keeps.tells part.1 ≡ true
    pub stands : keeps.holds part.1 place ≡ other.machine.containers.half.holds device place

  abbrev pub TablesCompose : Type 0
  TablesCompose = (bytes more : ℕ) (rests mid rests_now : ℕ → ℕ → Option (V × K)) (one : Leads bytes rests mid) (other : Leads more mid rests_now)
      (device : ℕ) (place : Place) → device < length ring.devices
      → ((began one).containers.seen (place_lock ring.lock_bits ring.power device place)).told ≡ true
      → KeptBoth bytes more rests mid rests_now one other device place
