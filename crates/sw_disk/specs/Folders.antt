-- Which folders changes made. (This project's own.)
use Rattle.std.specs.Prelude.{ℕ, Bool, false, not, ◌&&◌, List, [], Option, Some, None, if◌then◌else◌}
use Rattle.std.specs.Str.{bytes_eq}
use Rattle.sw_disk.specs.Paths.{above, last_name}
use Rattle.sw_disk.specs.declared.change.Change.{Change}
use Rattle.sw_disk.specs.declared.change.Change.TheVariants.{Created, FileSynced, FolderSynced, Made, Moved, Removed}

-- whether a change made this folder
abbrev pub makes : List ℕ → Change → Bool
makes folder (Made dir) = bytes_eq dir folder
makes folder (Created dir file bytes) = false
makes folder (FileSynced dir file) = false
makes folder (FolderSynced dir) = false
makes folder (Moved from_dir from_file dir file) = false
makes folder (Removed dir file) = false

-- whether a change made a folder in this one
abbrev pub makes_in : List ℕ → Change → Bool
makes_in folder (Made dir) = not (bytes_eq dir []) && bytes_eq (above dir) folder
makes_in folder (Created dir file bytes) = false
makes_in folder (FileSynced dir file) = false
makes_in folder (FolderSynced dir) = false
makes_in folder (Moved from_dir from_file dir file) = false
makes_in folder (Removed dir file) = false

-- the last name of a folder that a change made in this one
abbrev pub name_in : List ℕ → Change → Option (List ℕ)
name_in folder (Made dir) = if makes_in folder (Made dir) then Some (last_name dir) else None
name_in folder (Created dir file bytes) = None
name_in folder (FileSynced dir file) = None
name_in folder (FolderSynced dir) = None
name_in folder (Moved from_dir from_file dir file) = None
name_in folder (Removed dir file) = None

-- whether a change made a folder in this one, with this as its last name
abbrev pub names_in : List ℕ → List ℕ → Change → Bool
names_in folder name (Made dir) = makes_in folder (Made dir) && bytes_eq (last_name dir) name
names_in folder name (Created dir file bytes) = false
names_in folder name (FileSynced dir file) = false
names_in folder name (FolderSynced dir) = false
names_in folder name (Moved from_dir from_file dir file) = false
names_in folder name (Removed dir file) = false
