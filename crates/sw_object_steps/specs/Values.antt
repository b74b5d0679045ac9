-- What stands under a hash: its state, and the records that are filed there. (This project's own.)
use Rattle.std.specs.Prelude.{◌==◌, ◌&&◌, Bool, List, [], ◌∷◌, Option, Some, None, if◌then◌else◌}
use Rattle.std.specs.Str.{bytes_eq}
use Rattle.sw_pending.specs.Records.{key_of}
use Rattle.sw_pending.specs.declared.filed.Filed.{Filed}
use Rattle.sw_pending.specs.declared.key.RecordKey.{RecordKey}
use Rattle.sw_state.specs.declared.state.State.{State}

-- the record of each key, where one is filed
abbrev pub Records : Type 0
Records = RecordKey → Option Filed

pub record ObjValue : Type 0 where
  pub state : State
  pub records : Records

-- a state beside which no record is filed
abbrev pub bare : State → ObjValue
bare s = record { state = s; records = λ key. None }

-- ---- records with another one

abbrev pub is_same_key : RecordKey → RecordKey → Bool
is_same_key key other = bytes_eq key.hash other.hash && (key.time == other.time)

-- with this one, or none, in place of what is filed for the key
abbrev pub set_record : Records → RecordKey → Option Filed → Records
set_record records at filed key = if is_same_key at key then filed else records key

abbrev pub with_record : Records → Filed → Records
with_record records filed = set_record records (key_of filed) (Some filed)

abbrev pub with_records : Records → List Filed → Records
with_records records [] = records
with_records records (filed ∷ more) = with_records (with_record records filed) more
