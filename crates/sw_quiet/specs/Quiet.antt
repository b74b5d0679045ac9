-- All nodes that keep no trail: what their user knows of them, and what setting a device down leaves. (This project's own.)
use Rattle.std.specs.Prelude.{◌≡◌, ℕ, Bool, List, [], None}
use Rattle.sw_core.specs.Worlds.{AllNodes, AreSetDown, KeeperSeen, first_of, keepers_in, sight_of, volumes_in}
use Rattle.sw_container_locks.specs.Slots.{AreSetDown as LocksAreSetDown}
use Rattle.sw_peer.specs.Sights.{Sight}
use Rattle.sw_volume.specs.Tree.{Folders}

-- the same, through a door that keeps no trail
abbrev pub without_trail : Sight → Sight
without_trail s = record s { trail = None }

-- what the user of all nodes knows of them, where they keep no trail
abbrev pub quiet_sight_of : {V K : Type 0} → (V → Bool) → (V → Folders) → (V → ℕ) → KeeperSeen K → AllNodes V K → Sight
quiet_sight_of tells files faults keeps w = without_trail (sight_of tells files faults keeps w)

-- a device was set down over these parts: each of its locks begins anew, and no line is left
pub record SetsDownQuietly {V K : Type 0} (old : AllNodes V K) (device : ℕ) (parts : List (V × K)) (new : AllNodes V K) : Type 0 where
  pub down : AreSetDown old.power old.max_bytes (first_of old.lock_bits device) (volumes_in parts) old.slots new.slots
  pub containers : LocksAreSetDown (first_of old.lock_bits device) (keepers_in parts) old.containers new.containers
  pub rest : new ≡ record old { slots = new.slots; lines = []; lifted = None; containers = new.containers }
