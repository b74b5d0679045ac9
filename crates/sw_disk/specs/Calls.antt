-- What calls make of a disk. (This project's own.)
use Rattle.std.specs.Prelude.{◌≡◌, ℕ, Bool, true, false, cond, List, [], ◌∷◌, Option, Some, None}
use Rattle.std.proofs.Common.{◌⊎◌}
use Rattle.std.specs.Option.{option_map}
use Rattle.std.specs.Str.{bytes_eq}
use Rattle.sw_disk.specs.Disk.{DiskFile, DiskState}
use Rattle.sw_disk.specs.Paths.{above, is_path}

-- at this name stands another file, or none; what stood there may come back until the folder is synced
abbrev pub with_file : DiskState → List ℕ → List ℕ → Option DiskFile → DiskState
with_file s dir file w = record s {
  files = λ d f. cond (is_path dir file d f) w (s.files d f);
  earlier = λ d f. cond (is_path dir file d f) (s.files d f ∷ s.earlier d f) (s.earlier d f);
}

-- a file was made at this name, with these bytes, which weren't synced
abbrev pub created : DiskState → List ℕ → List ℕ → List ℕ → DiskState
created s dir file bytes = with_file s dir file (Some (record { bytes = bytes; synced = false }))

-- the file at this name was taken away
abbrev pub removed : DiskState → List ℕ → List ℕ → DiskState
removed s dir file = with_file s dir file None

-- the file at the first name was moved to the second
abbrev pub moved : DiskState → List ℕ → List ℕ → List ℕ → List ℕ → DiskState
moved s from_dir from_file dir file = with_file (removed s from_dir from_file) dir file (s.files from_dir from_file)

-- the same file, synced
abbrev pub synced_file : DiskFile → DiskFile
synced_file file = record file { synced = true }

-- the bytes of the file at this name were synced
abbrev pub file_synced : DiskState → List ℕ → List ℕ → DiskState
file_synced s dir file = record s {
  files = λ d f. cond (is_path dir file d f) (option_map synced_file (s.files d f)) (s.files d f);
}

-- a folder whose name was synced, where it's there
abbrev pub synced_name : Option Bool → Option Bool
synced_name None = None
synced_name (Some kept) = Some true

-- the names of this folder were synced: those of its files, and those of the folders in it
abbrev pub folder_synced : DiskState → List ℕ → DiskState
folder_synced s dir = record s {
  earlier = λ d f. cond (bytes_eq dir d) [] (s.earlier d f);
  folders = λ d. cond (bytes_eq dir (above d)) (synced_name (s.folders d)) (s.folders d);
}

-- this folder is there: it was made, where it wasn't
abbrev pub is_made : Option Bool → Option Bool
is_made None = Some false
is_made (Some kept) = Some kept

abbrev pub made : DiskState → List ℕ → DiskState
made s dir = record s { folders = λ d. cond (bytes_eq dir d) (is_made (s.folders d)) (s.folders d) }

-- after a call that failed: nothing was done, or it was
abbrev pub MayBe : DiskState → DiskState → DiskState → Type 0
MayBe old done new = (new ≡ old) ⊎ (new ≡ done)

-- after the making of a file failed: nothing was done, or a file was made, with any bytes
abbrev pub MayCreate : DiskState → List ℕ → List ℕ → DiskState → Type 0
MayCreate old dir file new = (new ≡ old) ⊎ ((bytes : List ℕ) × (new ≡ created old dir file bytes))
