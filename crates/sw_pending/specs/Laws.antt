-- What is promised of records. (This project's own.)
use Rattle.std.specs.Prelude.{◌≡◌, ◌≢◌, ℕ, ◌↔◌, true, ◌||◌, ◌==◌, List, Some, Result, Ok, Err}
use Rattle.sw_hashpath.specs.declared.decode_error.DecodeError.{DecodeError}
use Rattle.sw_hashpath.specs.declared.decode_error.DecodeError.TheVariants.{NoMemory}
use Rattle.sw_hashpath.specs.declared.secrets.Secrets.{Secrets}
use Rattle.sw_pending.specs.Decoding.{IsRead, decoded}
use Rattle.sw_pending.specs.Names.{IsKey, name_text, named}
use Rattle.sw_pending.specs.Outcomes.{IsOutcome, IsRecord}
use Rattle.sw_pending.specs.Records.{marked}
use Rattle.sw_pending.specs.Rules.{is_done}
use Rattle.sw_pending.specs.Texts.{record_text}
use Rattle.sw_pending.specs.declared.filed.Filed.{Filed}
use Rattle.sw_pending.specs.declared.key.RecordKey.{RecordKey}

-- ---- names

-- a text names a record's file exactly where it is the name of that key's
abbrev pub NamedIs : Type 0
NamedIs = (text : List ℕ) (key : RecordKey) → (named text ≡ Some key) ↔ IsKey key × (text ≡ name_text key)

-- two keys have two names
abbrev pub NamesDiffer : Type 0
NamesDiffer = (key other : RecordKey) → IsKey key → IsKey other → name_text key ≡ name_text other → key ≡ other

-- ---- marks

-- a mark adds its device to those that are done, and no other
abbrev pub MarksAdd : Type 0
MarksAdd = (filed : Filed) (device other : ℕ) → is_done other (marked filed device).done ≡ ((other == device) || is_done other filed.done)

-- a mark of a device that is done changes nothing
abbrev pub MarksAreOnce : Type 0
MarksAreOnce = (filed : Filed) (device : ℕ) → is_done device filed.done ≡ true → marked filed device ≡ filed

-- ---- texts

-- two records with one text are one record
abbrev pub OneSpelling : Type 0
OneSpelling = (secrets : Secrets) (filed other : Filed)
    → IsRecord secrets filed → IsRecord secrets other → record_text filed ≡ record_text other → filed ≡ other

-- the text of a record is read as that record, and as nothing else
abbrev pub ReadsBack : Type 0
ReadsBack = (secrets : Secrets) (filed : Filed) (outcome : Result Filed DecodeError)
    → IsRecord secrets filed → outcome ≢ Err NoMemory → IsOutcome secrets (record_text filed) outcome → outcome ≡ Ok filed

-- any bytes are a record or have a fault
abbrev pub SomeOutcome : Type 0
SomeOutcome = (secrets : Secrets) (bytes : List ℕ) → (outcome : Result Filed DecodeError) × (outcome ≢ Err NoMemory) × IsOutcome secrets bytes outcome

-- and they are one record only, or have one fault only
abbrev pub OneOutcome : Type 0
OneOutcome = (secrets : Secrets) (bytes : List ℕ) (outcome other : Result Filed DecodeError)
    → outcome ≢ Err NoMemory → other ≢ Err NoMemory → IsOutcome secrets bytes outcome → IsOutcome secrets bytes other → outcome ≡ other

-- what the function says that bytes are read as is what they are: the record whose text they are, or their fault
abbrev pub DecodedIsOutcome : Type 0
DecodedIsOutcome = (secrets : Secrets) (bytes : List ℕ) (outcome : Result Filed DecodeError)
    → outcome ≢ Err NoMemory → IsOutcome secrets bytes outcome → IsRead outcome (decoded secrets bytes)

-- the text of a record is decoded as that record
abbrev pub DecodedReadsBack : Type 0
DecodedReadsBack = (secrets : Secrets) (filed : Filed) → IsRecord secrets filed → decoded secrets (record_text filed) ≡ Ok filed
