-- What one command leaves is sound for the next one, so that accounts go on from command to command. (This project's own.)
use Rattle.std.specs.Prelude.{◌≡◌, ℕ, ◌*◌, ◌^◌, Bool, List, length, Option}
use Rattle.sw_account_laws.specs.Accounts.{Account}
use Rattle.sw_account_laws.specs.Sound.{IsSound}
use Rattle.sw_core.specs.Worlds.{KeeperSeen, opened, sight_of}
use Rattle.sw_core.specs.declared.trail.Trail.{Trail}
use Rattle.sw_hashpath.specs.declared.name.Name.{Name}
use Rattle.sw_hashpath.specs.declared.place.Place.{Place}
use Rattle.sw_listing_laws.specs.Plain.{Cluster}
use Rattle.sw_object_steps.specs.Journals.{Hash}
use Rattle.sw_peer.specs.Sights.{Sight}
use Rattle.sw_quiet.specs.Quiet.{quiet_sight_of}
use Rattle.sw_ring.specs.declared.ring.Ring.{Ring}
use Rattle.sw_shard_range.specs.Names.{is_hidden}
use Rattle.sw_stores.specs.Starting.{AreStarted}
use Rattle.sw_volume.specs.Tree.{Folders}
use Rattle.sw_cluster.specs.Ending.{IsRun}
use Rattle.sw_cluster.specs.Limits.{run_bytes, serve_bytes}
use Rattle.sw_cluster.specs.Listing.{cluster_of}
use Rattle.sw_cluster.specs.Rounds.{IsServing}
use Rattle.sw_cluster.specs.Shown.{IsFair, LeadsTo, StaysSound, start}
use Rattle.sw_cluster.specs.Told.{Counts, DoorsTold, Input, Output}

module _ {V K : Type 0} (tells : V → Bool) (files : V → Folders) (faults : V → ℕ) (keeps : KeeperSeen K) (first : V × K → Type 0) (ring : Ring) where
  -- nodes that begin with what rests in the stores are sound with the account, however many bytes of bodies their journals may have
  abbrev pub BeginSound : (ℕ → ℕ → Option (V × K)) → Cluster → (Place → Place) → Account → Type 0
  BeginSound rests c root account =
      (bytes : ℕ) (parts : List (V × K)) → AreStarted first rests (2 ^ ring.lock_bits) 0 parts → length parts ≡ length ring.devices * 2 ^ ring.lock_bits
      → IsSound c root (start ring (sight_of tells files faults keeps (opened bytes ring parts)) account) account

  -- Whatever the account is of what the nodes of a command began with: a run leads from there to what they were last. Where they began sound with it, and
  -- clients kept to their part, what rests in the end is sound to begin with, and its account has what the run added.
  pub record LeavesSound (began last : Sight) (rests : ℕ → ℕ → Option (V × K)) : Type 0 where
    pub led : (account : Account) → LeadsTo ring began account last
    pub sound : (account : Account) (leads : LeadsTo ring began account last) (names : Hash → Name) (root : Place → Place)
        → IsFair ring began account names root last leads
        → (stays : StaysSound ring began account names root last leads) × BeginSound rests (cluster_of ring is_hidden names) root stays.later

  -- so it is of a session
  abbrev pub SessionsLeaveSound : Type 0
  SessionsLeaveSound = (rests rests_now : ℕ → ℕ → Option (V × K)) (stores stores_now : Counts) (source : Input) (sink : Output)
      (clock clock_now : Option (List ℕ)) (trail : Trail) (status : ℕ)
      (run : IsRun tells files faults keeps first ring rests rests_now stores stores_now source sink clock clock_now trail status)
      → LeavesSound (sight_of tells files faults keeps (opened run_bytes ring run.parts)) (sight_of tells files faults keeps run.over.told.last) rests_now

  -- and of connections that were served
  abbrev pub ServingLeavesSound : Type 0
  ServingLeavesSound = (rests rests_now : ℕ → ℕ → Option (V × K)) (port connections : ℕ) (doors doors_now : DoorsTold) (out : Output)
      (clock clock_now : Option (List ℕ)) (stores stores_now : Counts) (status : ℕ)
      (serving : IsServing tells files faults keeps ring first port connections rests rests_now doors doors_now out clock clock_now stores stores_now status)
      → LeavesSound (quiet_sight_of tells files faults keeps (opened serve_bytes ring serving.parts))
      (quiet_sight_of tells files faults keeps serving.over.after) rests_now
