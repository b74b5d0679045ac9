-- What a crash leaves of a disk: each file that was synced whole, and of another whatever; each name of a folder as it stands, or as it stood at some moment
-- since
-- the folder was synced, whatever becomes of other names; and nothing in a folder that isn't left itself. (This project's own, as narrow as hosts allow.)
use Rattle.std.specs.Prelude.{◌≡◌, ℕ, Bool, true, false, List, [], ◌∷◌, Option, Some, None, IsSome}
use Rattle.std.proofs.Common.{◌⊎◌}
use Rattle.sw_disk.specs.Disk.{DiskFile, DiskState}
use Rattle.sw_disk.specs.Paths.{steps_above}

-- what is left of the bytes of a file
abbrev pub IsLeftOf : List ℕ → Bool → Option (List ℕ) → Type 0
IsLeftOf bytes true w = w ≡ Some bytes
IsLeftOf bytes false w = IsSome w

-- what is left of what stands or stood at a name, where this is what comes back
abbrev pub IsLeft : Option DiskFile → Option (List ℕ) → Type 0
IsLeft None w = w ≡ None
IsLeft (Some file) w = IsLeftOf file.bytes file.synced w

-- what is left of one of these
abbrev pub IsLeftOfOne : List (Option DiskFile) → Option (List ℕ) → Type 0
IsLeftOfOne [] w = ⊥
IsLeftOfOne (e ∷ es) w = IsLeft e w ⊎ IsLeftOfOne es w

-- a folder outlives each crash: it and all above it, to the disk's own, were synced into the ones above them
abbrev pub IsOnDisk : DiskState → List ℕ → Type 0
IsOnDisk s dir = (n : ℕ) → ¬ (steps_above n dir ≡ []) → s.folders (steps_above n dir) ≡ Some true

-- a crash at this moment may leave this at a path
abbrev pub MayLeave : DiskState → List ℕ → List ℕ → Option (List ℕ) → Type 0
MayLeave s dir file w = IsLeftOfOne (s.files dir file ∷ s.earlier dir file) w ⊎ ((w ≡ None) × ¬ (IsOnDisk s dir))
