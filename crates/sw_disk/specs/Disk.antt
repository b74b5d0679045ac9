-- What a disk is at one moment. (This project's own.)
use Rattle.std.specs.Prelude.{◌≡◌, ℕ, Bool, List, [], ◌∷◌, Option, IsSome}
use Rattle.std.proofs.Common.{◌⊎◌}
use Rattle.sw_disk.specs.Paths.{above}

-- a file: its bytes, and whether these were synced
pub record DiskFile : Type 0 where
  pub bytes : List ℕ
  pub synced : Bool

-- a disk: files at names in folders, and folders by their paths
pub record DiskState : Type 0 where
  pub files : List ℕ → List ℕ → Option DiskFile  -- what stands at a name of a folder
  pub earlier : List ℕ → List ℕ → List (Option DiskFile)  -- what stood there since the folder was synced
  pub folders : List ℕ → Option Bool  -- none where there is no folder; else whether the one above it was synced since it was made

-- a file stands in a folder
abbrev pub HasFile : DiskState → List ℕ → Type 0
HasFile s dir = (file : List ℕ) × IsSome (s.files dir file)

-- a folder stands in another
abbrev pub HasFolder : DiskState → List ℕ → Type 0
HasFolder s dir = (d : List ℕ) × ¬ (d ≡ []) × (above d ≡ dir) × IsSome (s.folders d)

-- a file is among what stood at a name
abbrev pub HasSome : List (Option DiskFile) → Type 0
HasSome [] = ⊥
HasSome (e ∷ es) = IsSome e ⊎ HasSome es

-- a file stood in a folder since that was synced
abbrev pub HasStood : DiskState → List ℕ → Type 0
HasStood s dir = (file : List ℕ) × HasSome (s.earlier dir file)

-- something stands in a folder
abbrev pub IsFilled : DiskState → List ℕ → Type 0
IsFilled s dir = HasFile s dir ⊎ HasFolder s dir
