-- What is promised of the definitions on reading. (This project's own.)
use Rattle.std.specs.Prelude.{◌≡◌, ℕ, ◌↔◌, List, Some, ◌⊎◌}
use Rattle.sw_diskfile.specs.StateFiles.{name_of}
use Rattle.sw_diskfile.specs.declared.file_name.FileName.{FileName}
use Rattle.sw_hashpath.specs.declared.decode_error.BadFile.{BadFile}
use Rattle.sw_hashpath.specs.declared.secrets.Secrets.{Secrets}
use Rattle.sw_state.specs.declared.write.Write.{Write}
use Rattle.sw_object_steps.specs.Journals.{Hash}
use Rattle.sw_hashdir.specs.Places.{write_in}
use Rattle.sw_hashdir.specs.Readings.{IsDamage, IsFileOf}

-- the bytes of a file are read as one write, or have one fault, and not both
pub record IsReadOnce (secrets : Secrets) (hash : Hash) (file : FileName) (bytes : List ℕ) : Type 0 where
  pub some : ((w : Write) × IsFileOf secrets hash file bytes w) ⊎ ((bad : BadFile) × IsDamage secrets hash file bytes bad)
  pub apart : (w : Write) (bad : BadFile) → IsFileOf secrets hash file bytes w → ¬ (IsDamage secrets hash file bytes bad)
  pub one_write : (v w : Write) → IsFileOf secrets hash file bytes v → IsFileOf secrets hash file bytes w → v ≡ w
  pub one_fault : (bad other : BadFile) → IsDamage secrets hash file bytes bad → IsDamage secrets hash file bytes other → bad ≡ other

-- the same of all bytes, as any file of any hash
abbrev pub OneReading : Type 0
OneReading = (secrets : Secrets) (hash : Hash) (file : FileName) (bytes : List ℕ) → IsReadOnce secrets hash file bytes

-- what is read is the write by which the file counts in what its hash stands for
abbrev pub ReadAsItStands : Type 0
ReadAsItStands = (secrets : Secrets) (hash : Hash) (file : FileName) (bytes : List ℕ) (w : Write)
    → IsFileOf secrets hash file bytes w ↔ ((write_in secrets hash bytes ≡ Some w) × (name_of w ≡ file))
