-- What bytes are: the file of a record, or bytes with one of three faults. (This project's own.)
use Rattle.std.specs.Prelude.{◌≡◌, ◌≢◌, ℕ, ◌≤◌, ⊤, List, [], ◌++◌, Some, None, Result, Ok, Err}
use Rattle.std.specs.List.{All}
use Rattle.sw_hashpath.specs.BadNames.{bad_name}
use Rattle.sw_hashpath.specs.Paths.{hash_of}
use Rattle.sw_hashpath.specs.declared.decode_error.BadFile.{BadFile}
use Rattle.sw_hashpath.specs.declared.decode_error.BadFile.TheVariants.{Header, Field, Length}
use Rattle.sw_hashpath.specs.declared.decode_error.DecodeError.{DecodeError}
use Rattle.sw_hashpath.specs.declared.decode_error.DecodeError.TheVariants.{Bad, NoMemory}
use Rattle.sw_hashpath.specs.declared.name.Name.{Name}
use Rattle.sw_hashpath.specs.declared.secrets.Secrets.{Secrets}
use Rattle.sw_metafile.specs.Files.{IsByte}
use Rattle.sw_pending.specs.Texts.{first_line, record_text}
use Rattle.sw_pending.specs.declared.filed.Filed.{Filed}

-- the name of an object: nothing is wrong with it, and its hash is that of its path
pub record IsName (secrets : Secrets) (name : Name) : Type 0 where
  pub good : bad_name name.account (Some name.container) (Some name.object) ≡ None
  pub hashed : name.hash ≡ hash_of secrets name.account (Some name.container) (Some name.object)

-- what the types of a record can hold, of the name of an object
pub record IsRecord (secrets : Secrets) (filed : Filed) : Type 0 where
  pub name : IsName secrets filed.name
  pub account : All IsByte filed.name.account
  pub container : All IsByte filed.name.container
  pub object : All IsByte filed.name.object
  pub time : filed.time ≤ 999999999999999
  pub done : All IsByte filed.done

abbrev pub BeginsWith : List ℕ → Type 0
BeginsWith bytes = (rest : List ℕ) × (bytes ≡ first_line ++ rest)

-- the bytes are the text of a record, and then this rest
pub record HasText (secrets : Secrets) (bytes : List ℕ) (filed : Filed) (rest : List ℕ) : Type 0 where
  pub is_record : IsRecord secrets filed
  pub is_text : bytes ≡ record_text filed ++ rest

-- the faults: no first line; a first line without the text of a record; such a text with more bytes after it
abbrev pub IsBad : Secrets → List ℕ → BadFile → Type 0
IsBad secrets bytes Header = ¬ (BeginsWith bytes)
IsBad secrets bytes Field = BeginsWith bytes × ((filed : Filed) (rest : List ℕ) → ¬ (HasText secrets bytes filed rest))
IsBad secrets bytes Length = (filed : Filed) × (rest : List ℕ) × HasText secrets bytes filed rest × (rest ≢ [])

-- what an answer says of the bytes; want of memory says nothing
abbrev pub IsOutcome : Secrets → List ℕ → Result Filed DecodeError → Type 0
IsOutcome secrets bytes (Ok filed) = IsRecord secrets filed × (bytes ≡ record_text filed)
IsOutcome secrets bytes (Err (Bad bad)) = IsBad secrets bytes bad
IsOutcome secrets bytes (Err NoMemory) = ⊤
