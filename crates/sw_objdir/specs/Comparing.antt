-- Which doubts of writes a read of a partition settles, which calls of the volume that takes, and how it fails. (This project's own.)
use Rattle.std.specs.Prelude.{◌≡◌, ◌≢◌, ⊤, ℕ, suc, ◌≤◌, ◌==◌, Bool, true, false, ◌&&◌, List, [], ◌∷◌, length, Result, Ok, Err, ◌⊎◌}
use Rattle.std.specs.Str.{bytes_eq}
use Rattle.sw_hashdir.specs.declared.reading.ReadFault.{ReadFault}
use Rattle.sw_hashdir.specs.declared.reading.ReadFault.TheVariants as reads
use Rattle.sw_hashpath.specs.HashParts.{partition_of, suffix_of}
use Rattle.sw_hashpath.specs.declared.decode_error.BadFile.{BadFile}
use Rattle.sw_objdir.specs.Directories.{Kept}
use Rattle.sw_objdir.specs.declared.comparing.Scope.{Scope}
use Rattle.sw_objdir.specs.declared.comparing.Scope.TheVariants as scopes
use Rattle.sw_outside.specs.Counts.{raised}
use Rattle.sw_object_steps.specs.Journals.{Hash, written}
use Rattle.sw_object_steps.specs.declared.dir_fault.DirFault.{DirFault}
use Rattle.sw_object_steps.specs.declared.dir_fault.DirFault.TheVariants as faulted
use Rattle.sw_object_steps.specs.declared.entry.ObjEntry.{ObjEntry}
use Rattle.sw_object_steps.specs.declared.entry.ObjEntry.TheVariants.{Dropped, Files, Marked, Wrote}
use Rattle.sw_state.specs.declared.write.Write.{Write}
use Rattle.sw_volume.specs.Volume.{raised_by}
use Rattle.sw_volume.specs.declared.errors.VolumeError.{VolumeError}
use Rattle.sw_volume.specs.declared.errors.VolumeError.TheVariants as volumes

-- ---- faults

-- the fault as which a volume's error is told
abbrev pub fault_of_volume : VolumeError → DirFault
fault_of_volume volumes.Failed = faulted.Failed
fault_of_volume volumes.NoMemory = faulted.NoMemory

-- and that as which a fault of a read is
abbrev pub fault_of_read : ReadFault → DirFault
fault_of_read (reads.Damaged bad) = faulted.Damaged bad
fault_of_read reads.Failed = faulted.Failed
fault_of_read reads.NoMemory = faulted.NoMemory

module _ {A : Type 0} where
  -- one fault is counted where a call of the volume failed, and none else
  abbrev pub CountsFault : ℕ → ℕ → Result A DirFault → Type 0
  CountsFault before now (Ok got) = now ≡ before
  CountsFault before now (Err (faulted.Damaged bad)) = now ≡ before
  CountsFault before now (Err faulted.Failed) = now ≡ raised before
  CountsFault before now (Err faulted.NoMemory) = now ≡ before

  -- P holds of the fault, where the answer is that a file is damaged
  abbrev pub IfDamagedPart : Result A DirFault → (BadFile → Type 0) → Type 0
  IfDamagedPart (Ok got) P = ⊤
  IfDamagedPart (Err (faulted.Damaged bad)) P = P bad
  IfDamagedPart (Err faulted.Failed) P = ⊤
  IfDamagedPart (Err faulted.NoMemory) P = ⊤

-- ---- doubts

-- whether a read of this scope reads the hash
abbrev pub is_in : ℕ → Scope → Hash → Bool
is_in power (scopes.Part part) hash = partition_of hash power == part
is_in power (scopes.Suffix part suffix) hash = (partition_of hash power == part) && (suffix_of hash == suffix)
is_in power (scopes.Hash one) hash = bytes_eq one hash

-- whether an entry is a write of the scope
abbrev pub is_write_in : ℕ → Scope → ObjEntry → Bool
is_write_in power scope (Wrote name w records) = is_in power scope name.hash
is_write_in power scope (Files by filed) = false
is_write_in power scope (Marked by filed device) = false
is_write_in power scope (Dropped by filed) = false

-- no doubt of a write of the scope is left
abbrev pub IsSettled : ℕ → Scope → List ObjEntry → Type 0
IsSettled power scope doubts = (hash : Hash) → is_in power scope hash ≡ true → written hash doubts ≡ []

-- a write of a hash of the scope is in doubt
pub record HasDoubt (power : ℕ) (scope : Scope) (doubts : List ObjEntry) : Type 0 where
  pub hash : Hash
  pub within : is_in power scope hash ≡ true
  pub doubted : written hash doubts ≢ []

-- how many listings settle the doubt of a hash's writes: one where there is one
abbrev pub listings_of : List Write → ℕ
listings_of [] = 0
listings_of (w ∷ ws) = 1

-- ---- calls

module _ {V : Type 0} (calls lists : V → ℕ) where
  -- so many listings, and so many calls that are none
  pub record Looks (listed more : ℕ) (k n : Kept V) : Type 0 where
    pub called : calls n.volume ≡ raised_by more (raised_by listed (calls k.volume))
    pub listings : lists n.volume ≡ raised_by listed (lists k.volume)

  -- one file is read, after so many listings. No call comes after one that failed
  abbrev pub ReadsOnce : {A : Type 0} → ℕ → Kept V → Result A DirFault → Kept V → Type 0
  ReadsOnce listings k (Ok got) n = Looks listings 1 k n
  ReadsOnce listings k (Err (faulted.Damaged bad)) n = Looks listings 1 k n
  ReadsOnce listings k (Err faulted.Failed) n = Looks listings 1 k n ⊎ ((listings ≡ 1) × Looks 1 0 k n)
  ReadsOnce listings k (Err faulted.NoMemory) n = Looks listings 1 k n ⊎ ((listed : ℕ) × (listed ≤ listings) × Looks listed 0 k n)

  -- a doubt of a write of the scope was settled, by one listing
  pub record SettlesSome (k : Kept V) (scope : Scope) (n : Kept V) : Type 0 where
    pub doubt : HasDoubt k.power scope k.journal.doubts
    pub settled : written doubt.hash n.journal.doubts ≡ []
    pub fewer : suc (length n.journal.doubts) ≡ length k.journal.doubts
    pub listed : Looks 1 0 k n

  -- there was none
  pub record SettlesNone (k : Kept V) (scope : Scope) (n : Kept V) : Type 0 where
    pub none : IsSettled k.power scope k.journal.doubts
    pub same : n.journal ≡ k.journal
    pub listed : Looks 0 0 k n

  -- by its answer, whether there was one
  abbrev pub SettlesDoubt : Kept V → Scope → Result Bool VolumeError → Kept V → Type 0
  SettlesDoubt k scope (Ok true) n = SettlesSome k scope n
  SettlesDoubt k scope (Ok false) n = SettlesNone k scope n
  SettlesDoubt k scope (Err volumes.Failed) n = HasDoubt k.power scope k.journal.doubts × Looks 1 0 k n
  SettlesDoubt k scope (Err volumes.NoMemory) n = HasDoubt k.power scope k.journal.doubts × ((listed : ℕ) × (listed ≤ 1) × Looks listed 0 k n)
