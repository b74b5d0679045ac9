-- What a volume keeps on a disk. (This project's own.)
use Rattle.std.specs.Prelude.{◌≡◌, ℕ, cond, List, Option, None, codes}
use Rattle.std.proofs.Common.{◌⊎◌}
use Rattle.std.specs.Option.{option_map}
use Rattle.std.specs.Str.{bytes_eq}
use Rattle.sw_disk.specs.Crash.{IsOnDisk, MayLeave}
use Rattle.sw_disk.specs.Disk.{DiskState, HasStood, IsFilled}
use Rattle.sw_volume.specs.Volume.{Contents, IsSame, MaySet}

-- the folder in which files are written before they are moved to their places: none of these is kept
abbrev pub writing : List ℕ
writing = codes "tmp"

-- the files that are kept, with their bytes as they are read
abbrev pub kept : DiskState → Contents
kept s dir file = cond (bytes_eq writing dir) None (option_map (λ f. f.bytes) (s.files dir file))

-- a folder in which anything stands outlives each crash, and so does one in which a crash may bring a file back
pub record IsOrdered (s : DiskState) : Type 0 where
  pub filled : (dir : List ℕ) → IsFilled s dir → IsOnDisk s dir
  pub stood : (dir : List ℕ) → HasStood s dir → IsOnDisk s dir

-- a volume's disk: it is ordered, and has the folder for writing
pub record IsInOrder (s : DiskState) : Type 0 where
  pub ordered : IsOrdered s
  pub writing : IsOnDisk s writing

-- From old to new no file that is kept has changed, and a crash leaves of none what it might not have left before. What held of the disk's order still does.
pub record Rests (Order : DiskState → Type 0) (old new : DiskState) : Type 0 where
  pub order : Order old → Order new
  pub now : IsSame (kept old) (kept new)
  pub left : (dir file : List ℕ) (w : Option (List ℕ)) → ¬ (dir ≡ writing) → MayLeave new dir file w → MayLeave old dir file w

-- From old to new this one path was set to w, or nothing has changed; and a crash leaves w there, or what it might have left before, and of no other file
-- anything else than before.
pub record Turns (dir file : List ℕ) (w : Option (List ℕ)) (old new : DiskState) : Type 0 where
  pub order : IsInOrder old → IsInOrder new
  pub now : MaySet (kept old) (kept new) dir file w
  pub left : (d f : List ℕ) (x : Option (List ℕ)) → ¬ (d ≡ writing) → MayLeave new d f x → MayLeave old d f x ⊎ ((d ≡ dir) × (f ≡ file) × (x ≡ w))

-- each crash leaves this at a path
abbrev pub IsDurable : DiskState → List ℕ → List ℕ → Option (List ℕ) → Type 0
IsDurable s dir file w = (x : Option (List ℕ)) → MayLeave s dir file x → x ≡ w
