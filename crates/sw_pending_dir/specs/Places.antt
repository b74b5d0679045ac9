-- Where records are, and what stands for each key. (The folders and names of records' files are OpenStack Swift's.)
use Rattle.std.specs.Prelude.{◌≡◌, ℕ, Bool, true, ◌==◌, ◌&&◌, is_some, if◌then◌else◌, List, [], map, Option, None, Some, Result, Ok, Err}
use Rattle.std.specs.List.{list_all}
use Rattle.std.specs.Option.{unwrap_or}
use Rattle.std.specs.Str.{bytes_eq}
use Rattle.sw_hashpath.specs.declared.decode_error.BadFile.{BadFile}
use Rattle.sw_hashpath.specs.declared.secrets.Secrets.{Secrets}
use Rattle.sw_pending.specs.Decoding.{decoded}
use Rattle.sw_pending.specs.Names.{IsKey, folder_text, name_text, named}
use Rattle.sw_pending.specs.Records.{key_of}
use Rattle.sw_pending.specs.declared.filed.Filed.{Filed}
use Rattle.sw_pending.specs.declared.key.RecordKey.{RecordKey}
use Rattle.sw_volume.specs.Tree.{Files, Folders, at, contents}
use Rattle.sw_volume.specs.Volume.{Contents}

-- ---- places

-- what stands at the place of a key: in its folder, under its name
abbrev pub bytes_at : Contents → RecordKey → Option (List ℕ)
bytes_at stood key = stood (folder_text key.hash) (name_text key)

abbrev pub placed_in : List ℕ → Option RecordKey → Option RecordKey
placed_in dir None = None
placed_in dir (Some key) = if bytes_eq (folder_text key.hash) dir then Some key else None

-- the key whose place this is: none where the name hasn't the form of a record's, or where the key's folder is another one
abbrev pub key_at : List ℕ → List ℕ → Option RecordKey
key_at dir name = placed_in dir (named name)

-- ---- files

abbrev pub is_same_key : RecordKey → RecordKey → Bool
is_same_key key other = bytes_eq key.hash other.hash && (key.time == other.time)

abbrev pub with_key : RecordKey → Result Filed BadFile → Option Filed
with_key key (Ok filed) = if is_same_key (key_of filed) key then Some filed else None
with_key key (Err bad) = None

-- the record that the bytes are, where it is one of this key
abbrev pub record_in : Secrets → RecordKey → List ℕ → Option Filed
record_in secrets key bytes = with_key key (decoded secrets bytes)

-- the bytes are this record, and it is one of this key
pub record IsRecordOf (secrets : Secrets) (key : RecordKey) (bytes : List ℕ) (filed : Filed) : Type 0 where
  pub decodes : decoded secrets bytes ≡ Ok filed
  pub keyed : key_of filed ≡ key

-- ---- what stands for a key

abbrev pub record_from : Secrets → RecordKey → Option (List ℕ) → Option Filed
record_from secrets key None = None
record_from secrets key (Some bytes) = record_in secrets key bytes

-- the record that stands for a key: none where no file stands at its place, or none that is a record of this key
unfoldable pub record_at : Secrets → Folders → RecordKey → Option Filed
record_at secrets folders key = record_from secrets key (bytes_at (contents folders) key)

-- ---- order

-- whether what stands at the place of a key is a record of it. At a place of no key anything may stand
abbrev pub is_right : Secrets → Option RecordKey → Option (List ℕ) → Bool
is_right secrets None stands = true
is_right secrets (Some key) None = true
is_right secrets (Some key) (Some bytes) = is_some (record_in secrets key bytes)

abbrev pub file_names : Folders → List ℕ → List (List ℕ)
file_names folders dir = map (λ (e : List ℕ × List ℕ). e.0) (unwrap_or (at folders dir) [])

abbrev pub is_folder_right : Secrets → Folders → List ℕ → Bool
is_folder_right secrets folders dir = list_all (λ name. is_right secrets (key_at dir name) (contents folders dir name)) (file_names folders dir)

-- whether each file at the place of a key is a record of that key. A file below `async_pending` whose name hasn't the form of a record's, or whose
-- key has another folder, is passed over
unfoldable pub records_in_order : Secrets → Folders → Bool
records_in_order secrets folders = list_all (λ (e : List ℕ × Files). is_folder_right secrets folders e.0) folders

-- the same, said of each key
abbrev pub AllRecordsInOrder : Secrets → Folders → Type 0
AllRecordsInOrder secrets folders = (key : RecordKey) (bytes : List ℕ) → IsKey key → bytes_at (contents folders) key ≡ Some bytes
    → (filed : Filed) × IsRecordOf secrets key bytes filed
