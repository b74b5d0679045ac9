-- The files by which the row of what stands under a name is found, for a record of it, and the calls of the volume that this takes. (This project's own.)
use Rattle.std.specs.Prelude.{◌≡◌, ⊤, ℕ, nat_lt, Bool, true, List, Option, None, Some, Result, Ok, Err, ◌⊎◌, if◌then◌else◌}
use Rattle.std.specs.Option.{option_and_then, option_map}
use Rattle.sw_diskfile.specs.FileNames.{name_text}
use Rattle.sw_diskfile.specs.declared.file_name.FileName.{FileName}
use Rattle.sw_diskfile.specs.declared.picking.Picked.{Picked}
use Rattle.sw_hashdir.specs.Places.{dir_text}
use Rattle.sw_hashdir.specs.Readings.{IsDamagedAt, IsFound, data_of}
use Rattle.sw_hashpath.specs.declared.decode_error.BadFile.{BadFile}
use Rattle.sw_hashpath.specs.declared.secrets.Secrets.{Secrets}
use Rattle.sw_objdir.specs.Calling.{Listed, read_calls}
use Rattle.sw_objdir.specs.Comparing.{Looks}
use Rattle.sw_objdir.specs.Directories.{Kept}
use Rattle.sw_object_steps.specs.BaseRows.{IsRowOf}
use Rattle.sw_object_steps.specs.Journals.{Hash}
use Rattle.sw_object_steps.specs.Outlines.{file_mark, mark_of}
use Rattle.sw_object_steps.specs.declared.dir_fault.DirFault.{DirFault}
use Rattle.sw_object_steps.specs.declared.dir_fault.DirFault.TheVariants as faulted
use Rattle.sw_object_steps.specs.declared.stored.Stored.{Stored}
use Rattle.sw_pending.specs.declared.filed.Filed.{Filed}
use Rattle.sw_rows.specs.declared.row.Row.{Row}
use Rattle.sw_state.specs.Bases.{base_at}
use Rattle.sw_state.specs.declared.base.Base.{Base}
use Rattle.sw_state.specs.declared.base.Base.TheVariants as bases
use Rattle.sw_state.specs.declared.state.State.{State}
use Rattle.sw_state.specs.declared.write.Write.{Write}
use Rattle.sw_volume.specs.Tree.{Folders, contents}

-- ---- files

-- there is a row exactly where there is a base, and it tells of that
abbrev pub IsRowAt : List ℕ → Option Base → Option Row → Type 0
IsRowAt object None None = ⊤
IsRowAt object None (Some row) = ⊥
IsRowAt object (Some base) None = ⊥
IsRowAt object (Some base) (Some row) = IsRowOf object base row

-- the same of a write that was read
abbrev pub IsRowRead : List ℕ → Option Stored → Option Row → Type 0
IsRowRead object found got = IsRowAt object (option_and_then (λ stored. base_at stored.write.time stored.write.kind) found) got

-- the same of what stands, where this is the file of its base
abbrev pub IsRowBy : List ℕ → FileName → Bool → State → Option Row → Type 0
IsRowBy object file told s got = told ≡ true → option_map mark_of s.base ≡ Some (file_mark file) → IsRowAt object s.base got

-- the file of the base that was picked, where it isn't earlier than this time
abbrev pub base_to_tell : Option FileName → ℕ → Option FileName
base_to_tell None time = None
base_to_tell (Some base) time = if nat_lt base.time time then None else Some base

-- the base that a write is, where one was read
abbrev pub base_in : Option Write → Option Base
base_in found = option_and_then (λ w. base_at w.time w.kind) found

module _ (secrets : Secrets) (hash : Hash) (folders : Folders) (dir : List ℕ) (object : List ℕ) where
  -- the row of the base of this file, by what is read where one is to be read
  abbrev pub IsRowWith : FileName → Option FileName → Option Row → Type 0
  IsRowWith file None got = IsRowAt object (Some (bases.Del file.time)) got
  IsRowWith file (Some read) got =
      (found : Option Write) × IsFound secrets hash read (contents folders dir (name_text read)) found × IsRowAt object (base_in found) got

  -- the row tells what the file of the base says: that of data by what is read of it, and a tombstone by its name
  abbrev pub IsRowIn : FileName → Option Row → Type 0
  IsRowIn file got = IsRowWith file (data_of (Some file)) got

  -- none where there is no such file
  abbrev pub IsRowTold : Option FileName → Option Row → Type 0
  IsRowTold None got = got ≡ None
  IsRowTold (Some file) got = IsRowIn file got

-- how many files are read for the row: that of the base, where it is data
abbrev pub row_reads : Option FileName → ℕ
row_reads base = read_calls (option_and_then (λ file. data_of (Some file)) base)

-- the same of what was picked
abbrev pub base_reads : Picked → ℕ → ℕ
base_reads picked time = row_reads (base_to_tell picked.base time)

-- ---- calls

-- P holds, where the answer is that a file is damaged, or that a call of the volume failed
abbrev pub OnReadFault : {A : Type 0} → Result A DirFault → Type 0 → Type 0
OnReadFault (Ok got) P = ⊤
OnReadFault (Err (faulted.Damaged bad)) P = P
OnReadFault (Err faulted.Failed) P = P
OnReadFault (Err faulted.NoMemory) P = ⊤

module _ {V : Type 0} (tells : V → Bool) (files : V → Folders) (faults calls lists : V → ℕ) where
  -- the name's directory was listed, and then the base's file read where it is data that isn't earlier than the record
  pub record LooksBase (k : Kept V) (filed : Filed) (n : Kept V) : Type 0 where
    pub seen : Listed tells files faults calls lists k filed.name
    pub counts : Looks calls lists 1 (base_reads seen.picked filed.time) k n
    pub kept : n.journal ≡ seen.journal

  -- and what was found there was told
  pub record ShowsBase (k : Kept V) (filed : Filed) (got : Option Row) (n : Kept V) : Type 0 where
    pub looked : LooksBase k filed n
    pub shown : tells k.volume ≡ true → IsRowTold k.secrets filed.name.hash (files k.volume) (dir_text k.power filed.name.hash) filed.name.object
        (base_to_tell looked.seen.picked.base filed.time) got

  -- the last call was the read of that file
  pub record ReadsBase (k : Kept V) (filed : Filed) (n : Kept V) : Type 0 where
    pub looked : LooksBase k filed n
    pub is_read : base_reads looked.seen.picked filed.time ≡ 1

  -- which is damaged
  pub record DamagesBase (k : Kept V) (filed : Filed) (bad : BadFile) (n : Kept V) : Type 0 where
    pub read : ReadsBase k filed n
    pub damaged : tells k.volume ≡ true → IsDamagedAt k.secrets filed.name.hash (files k.volume) (dir_text k.power filed.name.hash)
        (base_to_tell read.looked.seen.picked.base filed.time) bad

  -- the listing, where one was made, told nothing
  pub record LooksNone (listings : ℕ) (k n : Kept V) : Type 0 where
    pub counts : Looks calls lists listings 0 k n
    pub kept : n.journal ≡ k.journal

  -- by its answer
  abbrev pub BaseCalled : Kept V → Filed → Result (Option Row) DirFault → Kept V → Type 0
  BaseCalled k filed (Ok got) n = ShowsBase k filed got n
  BaseCalled k filed (Err (faulted.Damaged bad)) n = DamagesBase k filed bad n
  BaseCalled k filed (Err faulted.Failed) n = LooksNone 1 k n ⊎ ReadsBase k filed n
  BaseCalled k filed (Err faulted.NoMemory) n = (LooksNone 0 k n ⊎ LooksNone 1 k n) ⊎ LooksBase k filed n
