-- What is promised of the definitions on records' files. (This project's own.)
use Rattle.std.specs.Prelude.{◌≡◌, ℕ, ◌↔◌, true, List, ◌++◌, codes, Option, Some, ◌⊎◌}
use Rattle.sw_hashpath.specs.declared.decode_error.BadFile.{BadFile}
use Rattle.sw_hashpath.specs.declared.secrets.Secrets.{Secrets}
use Rattle.sw_pending.specs.Names.{IsKey, folder_text, name_text}
use Rattle.sw_pending.specs.Outcomes.{IsRecord}
use Rattle.sw_pending.specs.Records.{key_of}
use Rattle.sw_pending.specs.declared.filed.Filed.{Filed}
use Rattle.sw_pending.specs.declared.key.RecordKey.{RecordKey}
use Rattle.sw_volume.specs.Tree.{Folders, contents}
use Rattle.sw_volume.specs.Volume.{Contents, Sets}
use Rattle.sw_pending_dir.specs.Places.{AllRecordsInOrder, IsRecordOf, key_at, record_at, records_in_order}
use Rattle.sw_pending_dir.specs.Readings.{IsDamage}
use Rattle.sw_pending_dir.specs.Steps.{KeepsRecords}

-- ---- places

-- a folder and a name are the place of exactly the key that has them
abbrev pub PlaceIsOfKey : Type 0
PlaceIsOfKey = (dir name : List ℕ) (key : RecordKey) → (key_at dir name ≡ Some key) ↔ IsKey key × (name ≡ name_text key) × (folder_text key.hash ≡ dir)

-- ---- what stands

-- what stands for a key is a record of that key, which is one that a record can have
pub record IsStandingFor (secrets : Secrets) (key : RecordKey) (filed : Filed) : Type 0 where
  pub is_key : IsKey key
  pub keyed : key_of filed ≡ key
  pub is_record : IsRecord secrets filed

abbrev pub WhatStandsIsOfKey : Type 0
WhatStandsIsOfKey = (secrets : Secrets) (folders : Folders) (key : RecordKey) (filed : Filed) → record_at secrets folders key ≡ Some filed
    → IsStandingFor secrets key filed

-- bytes are one record of a key, or have one fault, and not both
pub record IsReadOnce (secrets : Secrets) (key : RecordKey) (bytes : List ℕ) : Type 0 where
  pub some : ((filed : Filed) × IsRecordOf secrets key bytes filed) ⊎ ((bad : BadFile) × IsDamage secrets key bytes bad)
  pub apart : (filed : Filed) (bad : BadFile) → IsRecordOf secrets key bytes filed → ¬ (IsDamage secrets key bytes bad)
  pub one_record : (filed other : Filed) → IsRecordOf secrets key bytes filed → IsRecordOf secrets key bytes other → filed ≡ other
  pub one_fault : (bad other : BadFile) → IsDamage secrets key bytes bad → IsDamage secrets key bytes other → bad ≡ other

abbrev pub OneReading : Type 0
OneReading = (secrets : Secrets) (key : RecordKey) (bytes : List ℕ) → IsReadOnce secrets key bytes

-- ---- order

-- the test of order says the same as what is said of each key
abbrev pub OrderIsTold : Type 0
OrderIsTold = (secrets : Secrets) (folders : Folders) → (records_in_order secrets folders ≡ true) ↔ AllRecordsInOrder secrets folders

-- ---- changes elsewhere

-- where no file below `async_pending` changed, all records stay
abbrev pub ElsewhereKeeps : Type 0
ElsewhereKeeps = (secrets : Secrets) (old new : Folders)
    → ((rest file : List ℕ) → contents new (codes "async_pending/" ++ rest) file ≡ contents old (codes "async_pending/" ++ rest) file)
    → KeepsRecords secrets old new

-- a change at the place of a key leaves each file in or below `objects`, and in each other directory that begins so
abbrev pub ObjectsStay : Type 0
ObjectsStay = (old new : Contents) (key : RecordKey) (w : Option (List ℕ)) → Sets old new (folder_text key.hash) (name_text key) w
    → (rest file : List ℕ) → new (codes "objects" ++ rest) file ≡ old (codes "objects" ++ rest) file
