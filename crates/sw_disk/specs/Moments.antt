-- The moments of a disk: one before each call that changed anything, the last of them first, and the present one. A crash that comes during a call
-- leaves what one before it or one behind it might. (This project's own.)
use Rattle.std.specs.Prelude.{◌≡◌, List, ◌∷◌, ◌++◌}
use Rattle.std.proofs.Common.{◌⊎◌}
use Rattle.std.specs.List.{All}
use Rattle.sw_disk.specs.Disk.{DiskState}

-- one call: a moment has passed, or nothing has changed
abbrev pub Elapses : DiskState → List DiskState → DiskState → List DiskState → Type 0
Elapses old before new after = (after ≡ old ∷ before) ⊎ ((new ≡ old) × (after ≡ before))

-- from an old moment, behind these, to the present one, behind these others: it has P to the old one, and so has each in between
pub record Passes (P : DiskState → DiskState → Type 0) (old : DiskState) (before : List DiskState) (new : DiskState) (after : List DiskState) : Type 0 where
  pub since : List DiskState
  pub moments : new ∷ after ≡ since ++ old ∷ before
  pub each : All (P old) since
  pub last : P old new
