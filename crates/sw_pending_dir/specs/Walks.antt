-- All records of a volume, in their order, and the calls by which they are read. (This project's own.)
use Rattle.std.specs.Prelude.{◌≡◌, ℕ, ◌+◌, ◌≤◌, suc, Bool, true, ◌==◌, ◌&&◌, ◌||◌, nat_le, if◌then◌else◌, ◌↔◌, ◌⊎◌, List, ◌++◌, length, map, codes}
use Rattle.std.specs.Prelude.{Option, None, Some, IfSome, IsSome, Result, Ok, Err}
use Rattle.std.specs.Cmp.Lexicographic.{slice_cmp}
use Rattle.std.specs.List.{All, Contains, filter_map, list_all}
use Rattle.std.specs.List.Sorted.{IsStrictlySortedBy}
use Rattle.std.specs.Option.{option_to_list}
use Rattle.std.specs.Ordering.{nat_cmp}
use Rattle.std.specs.declared.alloc.Global.{Global}
use Rattle.std.specs.declared.cmp.Ordering.TheVariants.{Less}
use Rattle.std.specs.declared.vec.Vec.{Vec}
use Rattle.sw_hashpath.specs.declared.decode_error.BadFile.{BadFile}
use Rattle.sw_hashpath.specs.declared.secrets.Secrets.{Secrets}
use Rattle.sw_pending.specs.Names.{IsKey, folder_text, name_text}
use Rattle.sw_pending.specs.Orders.{AreAscending, key_cmp}
use Rattle.sw_pending.specs.Outcomes.{IsRecord}
use Rattle.sw_pending.specs.Records.{key_of}
use Rattle.sw_pending.specs.declared.filed.Filed.{Filed}
use Rattle.sw_pending.specs.declared.key.RecordKey.{RecordKey}
use Rattle.sw_volume.specs.Tree.{Folders, contents}
use Rattle.sw_volume.specs.Volume.{Contents, IsFolderIn, ListsAll}
use Rattle.sw_pending_dir.specs.Places.{IsRecordOf, bytes_at, key_at, record_at}
use Rattle.sw_pending_dir.specs.Readings.{IsDamaged, IsFound}
use Rattle.sw_pending_dir.specs.declared.fault.ReadFault.{ReadFault}

-- ---- folders

-- whether this is a lower-case hexadecimal digit
abbrev pub is_digit : ℕ → Bool
is_digit b = (nat_le 48 b && nat_le b 57) || (nat_le 97 b && nat_le b 102)

-- whether this is the name of a suffix: three such digits
abbrev pub is_suffix : List ℕ → Bool
is_suffix name = (length name == 3) && list_all is_digit name

-- the folder of this name below that of all records, where it is named as that of a suffix
abbrev pub suffix_folder : List ℕ → Option (List ℕ)
suffix_folder name = if is_suffix name then Some (codes "async_pending/" ++ name) else None

-- a file stands in the folder of this suffix, or below it
pub record IsSuffixIn (stood : Contents) (name : List ℕ) : Type 0 where
  pub digits : is_suffix name ≡ true
  pub stands : IsFolderIn stood (codes "async_pending") name

-- ---- what is read

-- the keys whose places these names are in a folder
abbrev pub keys_among : List ℕ → List (List ℕ) → List RecordKey
keys_among dir names = filter_map (key_at dir) names

-- the record stands at the place of its key
pub record IsStanding (secrets : Secrets) (stood : Contents) (filed : Filed) : Type 0 where
  pub bytes : List ℕ
  pub is_there : bytes_at stood (key_of filed) ≡ Some bytes
  pub is_record : IsRecordOf secrets (key_of filed) bytes filed

-- at the place of the key stands a record of it
abbrev pub IsRightAt : Secrets → Contents → RecordKey → Type 0
IsRightAt secrets stood key = (filed : Filed) × IsStanding secrets stood filed × (key_of filed ≡ key)

-- these are the records that stand, and at no place of a key stands anything else
pub record AreRecords (secrets : Secrets) (folders : Folders) (records : List Filed) : Type 0 where
  pub exact : (filed : Filed) → Contains records filed ↔ (record_at secrets folders (key_of filed) ≡ Some filed)
  pub order : (key : RecordKey) → IsKey key → IsSome (bytes_at (contents folders) key) → IsRightAt secrets (contents folders) key

-- at the place of some key stands a file that is damaged in this way, and at each place before it that isn't empty a record of its key
pub record IsFirstDamage (secrets : Secrets) (stood : Contents) (bad : BadFile) : Type 0 where
  pub key : RecordKey
  pub is_key : IsKey key
  pub damaged : IsDamaged secrets key (bytes_at stood key) bad
  pub first : (other : RecordKey) → IsKey other → key_cmp other key ≡ Less → IsSome (bytes_at stood other) → IsRightAt secrets stood other

-- ---- one file

-- the record of the key was added, where one stands
pub record AddsRead (T : Type 0) (secrets : Secrets) (stood : Contents) (key : RecordKey) (old new : List Filed) : Type 0 where
  pub found : Option Filed
  pub adds : new ≡ old ++ option_to_list found
  pub keyed : IfSome found (λ filed. key_of filed ≡ key)
  pub sound : IfSome found (λ filed. IsRecord secrets filed)
  pub stand : T → IsFound secrets key (bytes_at stood key) found

-- ---- one folder

-- records were added: of this folder, in order of name. T: that the volume tells what it holds
pub record AddsRecords (T : Type 0) (secrets : Secrets) (stood : Contents) (dir : List ℕ) (old new : List Filed) : Type 0 where
  pub more : List Filed
  pub adds : new ≡ old ++ more
  pub ascending : IsStrictlySortedBy (slice_cmp nat_cmp) (map (λ filed. name_text (key_of filed)) more)
  pub within : All (λ filed. folder_text filed.name.hash ≡ dir) more
  pub sound : All (IsRecord secrets) more
  pub stand : T → All (IsStanding secrets stood) more

-- at each place of the folder that isn't empty stands one of these
abbrev pub AreAllIn : Secrets → Contents → List ℕ → List Filed → Type 0
AreAllIn secrets stood dir records = (key : RecordKey) → IsKey key → folder_text key.hash ≡ dir → IsSome (bytes_at stood key)
    → (filed : Filed) × Contains records filed × IsStanding secrets stood filed × (key_of filed ≡ key)

-- a file of the folder is damaged in this way, and at each place of the folder before it that isn't empty stands a record of its key
pub record IsFolderDamage (secrets : Secrets) (stood : Contents) (dir : List ℕ) (bad : BadFile) : Type 0 where
  pub key : RecordKey
  pub is_key : IsKey key
  pub in_folder : folder_text key.hash ≡ dir
  pub damaged : IsDamaged secrets key (bytes_at stood key) bad
  pub first : (other : RecordKey) → IsKey other → folder_text other.hash ≡ dir → slice_cmp nat_cmp (name_text other) (name_text key) ≡ Less
      → IsSome (bytes_at stood other) → IsRightAt secrets stood other

-- so many files were read: those of the records that were added, and where it didn't come to its end maybe one more
abbrev pub IsFolderCourse : List Filed → List Filed → ℕ → Result (Unit {0}) ReadFault → Type 0
IsFolderCourse old new reads (Ok done) = length old + reads ≡ length new
IsFolderCourse old new reads (Err fault) = (length old + reads ≡ length new) ⊎ (length old + reads ≡ suc (length new))

-- ---- calls

-- so many of the folders of suffixes were listed
abbrev pub ListsSome : Contents → ℕ → Type 0
ListsSome stood folders = (suffixes : List (List ℕ)) × ListsAll suffixes (IsSuffixIn stood) × (folders ≤ length suffixes)

-- all of them were listed
abbrev pub ListsEach : Contents → ℕ → Type 0
ListsEach stood folders = (suffixes : List (List ℕ)) × ListsAll suffixes (IsSuffixIn stood) × (folders ≡ length suffixes)

-- so many files were read: those of records that stand, in order, and maybe one more
pub record ReadsSome (secrets : Secrets) (stood : Contents) (reads : ℕ) : Type 0 where
  pub records : List Filed
  pub ascending : AreAscending records
  pub stand : All (IsStanding secrets stood) records
  pub count : (reads ≡ length records) ⊎ (reads ≡ suc (length records))

-- the folders of suffixes that were listed and the files that were read: of all records each once, and up to a fault no others
abbrev pub IsCourse : Secrets → Contents → ℕ → ℕ → Result (Vec Filed Global) ReadFault → Type 0
IsCourse secrets stood folders reads (Ok records) = ListsEach stood folders × (reads ≡ length records.items)
IsCourse secrets stood folders reads (Err fault) = ((folders ≡ 0) ⊎ ListsSome stood folders) × ReadsSome secrets stood reads
