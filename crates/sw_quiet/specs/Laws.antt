-- What is promised of nodes that keep no trail. (This project's own.)
use Rattle.std.specs.Prelude.{ℕ, Bool, List}
use Rattle.sw_core.specs.Worlds.{AllNodes, KeeperSeen, Lifts}
use Rattle.sw_peer.specs.Sights.{Restarts}
use Rattle.sw_volume.specs.Tree.{Folders}
use Rattle.sw_quiet.specs.Quiet.{SetsDownQuietly, quiet_sight_of}

-- a device that is lifted, and set down over the parts that were given, was restarted
abbrev pub LiftingRestartsQuietly : {V K : Type 0} → (V → Bool) → (V → Folders) → (V → ℕ) → KeeperSeen K → Type 0
LiftingRestartsQuietly {V} {K} tells files faults keeps = (old mid new : AllNodes V K) (device : ℕ) (given : List (V × K))
    → Lifts tells files faults keeps old device given mid → SetsDownQuietly mid device given new
    → Restarts device (quiet_sight_of tells files faults keeps old) (quiet_sight_of tells files faults keeps new)
