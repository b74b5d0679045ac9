-- What a disk goes through under one volume after another: starts, calls and crashes. A process that is killed leaves the disk as it is, so that a kill is no
-- step of its own: the next start goes on from the moment at which it came. (This project's own.)
use Rattle.std.specs.Prelude.{◌≡◌, ⊤, ℕ, Bool, true, false, List, [], ◌∷◌, Option}
use Rattle.std.proofs.Common.{◌⊎◌}
use Rattle.sw_disk.specs.Crash.{MayLeave}
use Rattle.sw_disk.specs.Disk.{DiskState}
use Rattle.sw_disk.specs.Keeping.{kept, IsDurable, IsInOrder, IsOrdered, Rests, Turns}
use Rattle.sw_disk.specs.Leaving.{Leaves}
use Rattle.sw_volume.specs.Volume.{Sets}

pub data Step : Type 0 where
  -- a start that failed, or one up to some moment of it
  Opening : Step
  -- a start that was answered Ok
  Opened : Step
  -- a put or an unlink that was answered Ok: what it set at this path
  Done : (dir file : List ℕ) (w : Option (List ℕ)) → Step
  -- one that failed, or one up to some moment of it
  Tried : (dir file : List ℕ) (w : Option (List ℕ)) → Step
  -- a listing or a reading, whole or up to some moment of it
  Looked : Step
  -- a crash, and what it left
  Crashed : Step

-- a step from one state of the disk to another, as the contracts of the calls say
abbrev pub Takes : Step → DiskState → DiskState → Type 0
Takes Opening s t = IsOrdered s → Rests IsOrdered s t
Takes Opened s t = IsOrdered s → Rests IsOrdered s t × IsInOrder t
Takes (Done dir file w) s t = IsInOrder s → Turns dir file w s t × Sets (kept s) (kept t) dir file w × IsDurable t dir file w
Takes (Tried dir file w) s t = IsInOrder s → Turns dir file w s t
Takes Looked s t = Rests IsInOrder s t
Takes Crashed s t = Leaves s t

-- whether after these steps, the last of them first, a process runs whose start was answered
abbrev pub is_open : List Step → Bool
is_open [] = false
is_open (Opening ∷ before) = false
is_open (Opened ∷ before) = true
is_open (Done dir file w ∷ before) = is_open before
is_open (Tried dir file w ∷ before) = is_open before
is_open (Looked ∷ before) = is_open before
is_open (Crashed ∷ before) = false

-- a call comes in a process whose start was answered
abbrev pub IsInTurn : Step → List Step → Type 0
IsInTurn Opening before = ⊤
IsInTurn Opened before = ⊤
IsInTurn (Done dir file w) before = is_open before ≡ true
IsInTurn (Tried dir file w) before = is_open before ≡ true
IsInTurn Looked before = is_open before ≡ true
IsInTurn Crashed before = ⊤

-- these steps, the last of them first, lead from one state to another
abbrev pub Goes : List Step → DiskState → DiskState → Type 0
Goes [] s t = t ≡ s
Goes (step ∷ before) s t = (m : DiskState) × Goes before s m × IsInTurn step before × Takes step m t

-- what may stand at a path after these steps: what the last call that was answered set there, or what one tried since; and where none was answered also what
-- stood there at first, or might have been left of it
abbrev pub MayStand : DiskState → List Step → List ℕ → List ℕ → Option (List ℕ) → Type 0
MayStand s [] dir file x = (x ≡ kept s dir file) ⊎ MayLeave s dir file x
MayStand s (Done d f w ∷ before) dir file x = ((dir ≡ d) × (file ≡ f) × (x ≡ w)) ⊎ ((¬ ((dir ≡ d) × (file ≡ f))) × MayStand s before dir file x)
MayStand s (Tried d f w ∷ before) dir file x = ((dir ≡ d) × (file ≡ f) × (x ≡ w)) ⊎ MayStand s before dir file x
MayStand s (Opening ∷ before) dir file x = MayStand s before dir file x
MayStand s (Opened ∷ before) dir file x = MayStand s before dir file x
MayStand s (Looked ∷ before) dir file x = MayStand s before dir file x
MayStand s (Crashed ∷ before) dir file x = MayStand s before dir file x

-- no put or unlink among these steps is one of this path
abbrev pub Spares : List Step → List ℕ → List ℕ → Type 0
Spares [] dir file = ⊤
Spares (Done d f w ∷ before) dir file = (¬ ((dir ≡ d) × (file ≡ f))) × Spares before dir file
Spares (Tried d f w ∷ before) dir file = (¬ ((dir ≡ d) × (file ≡ f))) × Spares before dir file
Spares (Opening ∷ before) dir file = Spares before dir file
Spares (Opened ∷ before) dir file = Spares before dir file
Spares (Looked ∷ before) dir file = Spares before dir file
Spares (Crashed ∷ before) dir file = Spares before dir file
