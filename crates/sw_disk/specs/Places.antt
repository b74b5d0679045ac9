-- Which paths a volume over a disk takes. (This project's own.)
use Rattle.std.specs.Prelude.{◌≡◌, ℕ, Bool, true, false, not, ◌||◌, ◌==◌, List, [], codes}
use Rattle.std.specs.List.{list_all, slice_split}
use Rattle.std.specs.Str.{IsUtf8, bytes_eq}
use Rattle.sw_disk.specs.Keeping.{writing}
use Rattle.sw_disk.specs.Paths.{has_slash}
use Rattle.sw_volume.specs.Volume.{first_segment}

abbrev pub is_slash : ℕ → Bool
is_slash b = b == 47

-- whether a segment of a path names something in its folder
abbrev pub is_name : List ℕ → Bool
is_name segment = not (bytes_eq segment [] || bytes_eq segment (codes ".") || bytes_eq segment (codes ".."))

-- files may be kept in a folder of this path: it is text, each of its segments is a name, and the first isn't that of the folder for writing
pub record IsDirectory (dir : List ℕ) : Type 0 where
  pub text : IsUtf8 dir
  pub kept : ¬ (first_segment dir ≡ writing)
  pub names : list_all is_name (slice_split is_slash dir) ≡ true

-- a file may have this name: it is text and a name, without a slash
pub record IsFileName (file : List ℕ) : Type 0 where
  pub text : IsUtf8 file
  pub name : is_name file ≡ true
  pub whole : has_slash file ≡ false

pub record IsPlace (dir file : List ℕ) : Type 0 where
  pub directory : IsDirectory dir
  pub name : IsFileName file
