-- What the file at the place of a key is read as. (This project's own.)
use Rattle.std.specs.Prelude.{◌≡◌, ◌≢◌, ℕ, ⊤, List, Option, Some, None, Result, Ok, Err, ◌⊎◌}
use Rattle.sw_hashpath.specs.declared.decode_error.BadFile.{BadFile}
use Rattle.sw_hashpath.specs.declared.decode_error.BadFile.TheVariants.{Field}
use Rattle.sw_hashpath.specs.declared.decode_error.DecodeError.{DecodeError}
use Rattle.sw_hashpath.specs.declared.decode_error.DecodeError.TheVariants as decodings
use Rattle.sw_hashpath.specs.declared.secrets.Secrets.{Secrets}
use Rattle.sw_pending.specs.Decoding.{decoded}
use Rattle.sw_pending.specs.Records.{key_of}
use Rattle.sw_pending.specs.declared.filed.Filed.{Filed}
use Rattle.sw_pending.specs.declared.key.RecordKey.{RecordKey}
use Rattle.sw_volume.specs.declared.errors.VolumeError.{VolumeError}
use Rattle.sw_volume.specs.declared.errors.VolumeError.TheVariants as volumes
use Rattle.sw_pending_dir.specs.Places.{IsRecordOf}
use Rattle.sw_pending_dir.specs.declared.fault.ReadFault.{ReadFault}
use Rattle.sw_pending_dir.specs.declared.fault.ReadFault.TheVariants.{Damaged, Failed, NoMemory}

-- ---- answers

-- the fault as which a volume's error is told
abbrev pub fault_of_volume : VolumeError → ReadFault
fault_of_volume volumes.Failed = Failed
fault_of_volume volumes.NoMemory = NoMemory

-- the fault as which an error of decoding is told
abbrev pub fault_of_decoding : DecodeError → ReadFault
fault_of_decoding (decodings.Bad bad) = Damaged bad
fault_of_decoding decodings.NoMemory = NoMemory

module _ {T : Type 0} where
  -- P holds of the fault, where the answer is that a file is damaged
  abbrev pub IfDamaged : Result T ReadFault → (BadFile → Type 0) → Type 0
  IfDamaged (Ok found) P = ⊤
  IfDamaged (Err (Damaged bad)) P = P bad
  IfDamaged (Err Failed) P = ⊤
  IfDamaged (Err NoMemory) P = ⊤

  -- P holds, where the answer is that the volume failed
  abbrev pub OnFailedRead : Result T ReadFault → Type 0 → Type 0
  OnFailedRead (Ok found) P = ⊤
  OnFailedRead (Err (Damaged bad)) P = ⊤
  OnFailedRead (Err Failed) P = P
  OnFailedRead (Err NoMemory) P = ⊤

  -- P holds, where the answer is another one
  abbrev pub UnlessFailedRead : Result T ReadFault → Type 0 → Type 0
  UnlessFailedRead (Ok found) P = P
  UnlessFailedRead (Err (Damaged bad)) P = P
  UnlessFailedRead (Err Failed) P = ⊤
  UnlessFailedRead (Err NoMemory) P = P

  -- P holds, where memory ran out
  abbrev pub OnStarvedRead : Result T ReadFault → Type 0 → Type 0
  OnStarvedRead (Ok found) P = ⊤
  OnStarvedRead (Err (Damaged bad)) P = ⊤
  OnStarvedRead (Err Failed) P = ⊤
  OnStarvedRead (Err NoMemory) P = P

  -- P holds of the fault, where bytes were decoded as no record
  abbrev pub IfBad : Result T DecodeError → (BadFile → Type 0) → Type 0
  IfBad (Ok found) P = ⊤
  IfBad (Err (decodings.Bad bad)) P = P bad
  IfBad (Err decodings.NoMemory) P = ⊤

-- ---- one file

module _ (secrets : Secrets) (key : RecordKey) where
  -- no file stands there, or this record of the key does
  abbrev pub IsFound : Option (List ℕ) → Option Filed → Type 0
  IsFound None None = ⊤
  IsFound None (Some filed) = ⊥
  IsFound (Some bytes) None = ⊥
  IsFound (Some bytes) (Some filed) = IsRecordOf secrets key bytes filed

  -- the bytes are a record of another key
  pub record IsMisplaced (bytes : List ℕ) : Type 0 where
    pub filed : Filed
    pub decodes : decoded secrets bytes ≡ Ok filed
    pub elsewhere : key_of filed ≢ key

  -- the bytes are no record, and this is their fault; or a misplaced one, which counts as one with a bad field
  abbrev pub IsDamage : List ℕ → BadFile → Type 0
  IsDamage bytes bad = (decoded secrets bytes ≡ Err bad) ⊎ ((bad ≡ Field) × IsMisplaced bytes)

  -- a file stands there, and is damaged in this way
  pub record IsDamaged (stands : Option (List ℕ)) (bad : BadFile) : Type 0 where
    pub bytes : List ℕ
    pub is_there : stands ≡ Some bytes
    pub damage : IsDamage bytes bad
