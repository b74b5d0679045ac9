-- What calls of a volume make of what stands for all keys. (This project's own.)
use Rattle.std.specs.Prelude.{◌≡◌, ◌≢◌, Option, Some, None, ◌⊎◌}
use Rattle.sw_hashpath.specs.declared.secrets.Secrets.{Secrets}
use Rattle.sw_pending.specs.Outcomes.{IsName}
use Rattle.sw_pending.specs.Records.{key_of}
use Rattle.sw_pending.specs.declared.filed.Filed.{Filed}
use Rattle.sw_pending.specs.declared.key.RecordKey.{RecordKey}
use Rattle.sw_volume.specs.Tree.{Folders}
use Rattle.sw_pending_dir.specs.Places.{AllRecordsInOrder, record_at}

-- for each key stands what stood for it, and records that were in order are
pub record KeepsRecords (secrets : Secrets) (old new : Folders) : Type 0 where
  pub order : AllRecordsInOrder secrets old → AllRecordsInOrder secrets new
  pub same : (key : RecordKey) → record_at secrets new key ≡ record_at secrets old key

-- for one key stands this now, for each other what stood for it, and records that were in order are
pub record SetsRecord (secrets : Secrets) (key : RecordKey) (value : Option Filed) (old new : Folders) : Type 0 where
  pub order : AllRecordsInOrder secrets old → AllRecordsInOrder secrets new
  pub here : record_at secrets new key ≡ value
  pub others : (other : RecordKey) → other ≢ key → record_at secrets new other ≡ record_at secrets old other

-- under whatever secrets under which the record's name has its hash: the record stands for its key, or may stand for it
abbrev pub FilesRecord : Filed → Folders → Folders → Type 0
FilesRecord filed old new = (secrets : Secrets) → IsName secrets filed.name → SetsRecord secrets (key_of filed) (Some filed) old new

abbrev pub MayFileRecord : Filed → Folders → Folders → Type 0
MayFileRecord filed old new = (secrets : Secrets) → IsName secrets filed.name
    → KeepsRecords secrets old new ⊎ SetsRecord secrets (key_of filed) (Some filed) old new

-- under whatever secrets: no record stands for the key, or that may be
abbrev pub DropsRecord : RecordKey → Folders → Folders → Type 0
DropsRecord key old new = (secrets : Secrets) → SetsRecord secrets key None old new

abbrev pub MayDropRecord : RecordKey → Folders → Folders → Type 0
MayDropRecord key old new = (secrets : Secrets) → KeepsRecords secrets old new ⊎ SetsRecord secrets key None old new
