-- What lifting a device and setting it down are together. (This project's own.)
use Rattle.std.specs.Prelude.{ℕ, Bool, List}
use Rattle.sw_core.specs.Worlds.{AllNodes, KeeperSeen, Lifts, SetsDown, sight_of}
use Rattle.sw_peer.specs.Sights.{Restarts}
use Rattle.sw_volume.specs.Tree.{Folders}

-- a device that is lifted, and set down over the parts that were given, was restarted
abbrev pub LiftingRestarts : {V K : Type 0} → (V → Bool) → (V → Folders) → (V → ℕ) → KeeperSeen K → Type 0
LiftingRestarts {V} {K} tells files faults keeps = (old mid new : AllNodes V K) (device : ℕ) (given : List (V × K))
    → Lifts tells files faults keeps old device given mid → SetsDown mid device given new
    → Restarts device (sight_of tells files faults keeps old) (sight_of tells files faults keeps new)
