-- What changes make of a disk that began with nothing, moment by moment. (This project's own.)
use Rattle.std.specs.Prelude.{List, [], ◌∷◌, None}
use Rattle.std.specs.List.{fold}
use Rattle.sw_disk.specs.Calls.{created, file_synced, folder_synced, made, moved, removed}
use Rattle.sw_disk.specs.Disk.{DiskState}
use Rattle.sw_disk.specs.declared.change.Change.{Change}
use Rattle.sw_disk.specs.declared.change.Change.TheVariants.{Created, FileSynced, FolderSynced, Made, Moved, Removed}

-- a disk after one
abbrev pub after : DiskState → Change → DiskState
after s (Created dir file bytes) = created s dir file bytes
after s (FileSynced dir file) = file_synced s dir file
after s (FolderSynced dir) = folder_synced s dir
after s (Moved from_dir from_file dir file) = moved s from_dir from_file dir file
after s (Made dir) = made s dir
after s (Removed dir file) = removed s dir file

-- a disk with nothing on it
abbrev pub blank : DiskState
blank = record { files = λ dir file. None; earlier = λ dir file. []; folders = λ dir. None }

-- the state after some changes, and those before each of them, the last of them first
pub record Run : Type 0 where
  pub now : DiskState
  pub past : List DiskState

abbrev pub next : Run → Change → Run
next run change = record { now = after run.now change; past = run.now ∷ run.past }

abbrev pub run : List Change → Run
run changes = fold next (record { now = blank; past = [] }) changes
