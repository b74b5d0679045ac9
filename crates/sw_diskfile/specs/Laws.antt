-- What is promised of the definitions on file names. (This project's own.)
use Rattle.std.specs.Prelude.{◌≡◌, ℕ, ◌≤◌, ◌↔◌, List, Some}
use Rattle.sw_diskfile.specs.FileNames.{name_text, named}
use Rattle.sw_diskfile.specs.Picking.{IsPicked}
use Rattle.sw_diskfile.specs.declared.file_name.FileName.{FileName}
use Rattle.sw_diskfile.specs.declared.picking.Picked.{Picked}

-- two files have two names. The times of writes are up to 9999999999.99999 seconds, in units of 10 microseconds
abbrev pub NamesDiffer : Type 0
NamesDiffer = (file other : FileName) → file.time ≤ 999999999999999 → other.time ≤ 999999999999999 → name_text file ≡ name_text other → file ≡ other

-- the names of a directory leave no choice of what is picked
abbrev pub OnePick : Type 0
OnePick = (names : List FileName) (picked other : Picked) → IsPicked names picked → IsPicked names other → picked ≡ other

-- a text names a write's file exactly where it is the name of that file
abbrev pub NamedIs : Type 0
NamedIs = (text : List ℕ) (file : FileName) → (named text ≡ Some file) ↔ (file.time ≤ 999999999999999) × (text ≡ name_text file)
