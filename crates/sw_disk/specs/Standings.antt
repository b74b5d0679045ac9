-- What calls find on a disk. (This project's own.)
use Rattle.std.specs.Prelude.{◌≡◌, ℕ, List, [], Option, None, IsSome}
use Rattle.std.specs.Option.{option_map}
use Rattle.sw_disk.specs.Disk.{DiskState, IsFilled}
use Rattle.sw_disk.specs.Paths.{above, last_name}
use Rattle.sw_disk.specs.declared.disk.Standing.{Standing}
use Rattle.sw_disk.specs.declared.disk.Standing.TheVariants.{Missing, Empty, Filled}

-- a folder stands so: it isn't there; it is, and nothing stands in it; something does
abbrev pub Stands : DiskState → List ℕ → Standing → Type 0
Stands s dir Missing = s.folders dir ≡ None
Stands s dir Empty = IsSome (s.folders dir) × ¬ (IsFilled s dir)
Stands s dir Filled = IsFilled s dir

-- the bytes of the file at a name
abbrev pub bytes_at : DiskState → List ℕ → List ℕ → Option (List ℕ)
bytes_at s dir file = option_map (λ f. f.bytes) (s.files dir file)

-- a folder stands in another, and this is the last name of its path
pub record IsSubfolder (s : DiskState) (dir name : List ℕ) : Type 0 where
  pub path : List ℕ
  pub below : ¬ (path ≡ [])
  pub in_it : above path ≡ dir
  pub named : last_name path ≡ name
  pub there : IsSome (s.folders path)
