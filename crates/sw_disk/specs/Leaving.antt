-- A disk as a crash leaves it. What is found there is on the disk, so that a further crash leaves the same: a folder with each name on the way to it, and a
-- file with its bytes. (This project's own, as narrow as hosts allow.)
use Rattle.std.specs.Prelude.{◌≡◌, ℕ, true, List, [], ◌∷◌, Some, None, IsSome}
use Rattle.std.proofs.Common.{◌⊎◌}
use Rattle.sw_disk.specs.Crash.{IsLeftOfOne}
use Rattle.sw_disk.specs.Disk.{DiskFile, DiskState}
use Rattle.sw_disk.specs.Paths.{above}
use Rattle.sw_disk.specs.Standings.{bytes_at}

-- a folder is there: the disk's own always is
abbrev pub IsThere : DiskState → List ℕ → Type 0
IsThere t dir = (dir ≡ []) ⊎ IsSome (t.folders dir)

-- a crash left this folder: it was there, the one above it was left too, and it outlives each further crash as far as that does
pub record IsFolderLeft (s t : DiskState) (dir : List ℕ) : Type 0 where
  pub was : IsSome (s.folders dir)
  pub within : IsThere t (above dir)
  pub synced : t.folders dir ≡ Some true

-- A crash at this moment may leave this disk. Its folders were there; those whose names were synced are left where the ones above them are, of others any. At
-- each name of a folder that is left stands what is left of what stands or stood there, and nothing in any other.
pub record Leaves (s t : DiskState) : Type 0 where
  pub folders : (dir : List ℕ) → IsSome (t.folders dir) → IsFolderLeft s t dir
  pub synced : (dir : List ℕ) → s.folders dir ≡ Some true → IsThere t (above dir) → IsSome (t.folders dir)
  pub files : (dir file : List ℕ) → IsThere t dir → IsLeftOfOne (s.files dir file ∷ s.earlier dir file) (bytes_at t dir file)
  pub nothing : (dir file : List ℕ) → ¬ (IsThere t dir) → t.files dir file ≡ None
  pub whole : (dir file : List ℕ) (f : DiskFile) → t.files dir file ≡ Some f → f.synced ≡ true
  pub still : (dir file : List ℕ) → t.earlier dir file ≡ []
