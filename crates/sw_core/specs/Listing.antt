-- A listing of the files of all locks of a device. (This project's own.)
use Rattle.std.specs.Prelude.{◌≡◌, ℕ, ◌<◌, ◌≤◌, ◌⊎◌, Bool, true, false, List, length, Some, Result, Ok, Err}
use Rattle.std.specs.List.{slice_get}
use Rattle.sw_core.specs.Worlds.{AllNodes, first_of, past_of, seen_of}
use Rattle.sw_core.specs.declared.slot.Slot.{Slot}
use Rattle.sw_core.specs.declared.slot.Slot.TheVariants as slots
use Rattle.sw_hashdir.specs.Walks.{IsPathBelow}
use Rattle.sw_objdir.specs.Directories.{Kept, values_of}
use Rattle.sw_objdir.specs.Stepping.{OnlyLooks}
use Rattle.sw_object_steps.specs.Journals.{Hash}
use Rattle.sw_volume.specs.Tree.{Folders, contents}
use Rattle.sw_volume.specs.Volume.{ListsAll}
use Rattle.sw_volume.specs.declared.errors.VolumeError.{VolumeError}
use Rattle.sw_volume.specs.declared.errors.VolumeError.TheVariants.{Failed, NoMemory}

-- whether a call failed
abbrev pub is_failed : {T : Type 0} → Result T VolumeError → Bool
is_failed (Ok value) = false
is_failed (Err Failed) = true
is_failed (Err NoMemory) = false

-- each volume from one lock on, up to another, tells its contents
abbrev pub AllTell : {V : Type 0} → (V → Bool) → ℕ → ℕ → List (Slot V) → Type 0
AllTell {V} tells first past old = (l : ℕ) (k : Kept V) → first ≤ l → l < past → slice_get old l ≡ Some (slots.Open k) → tells k.volume ≡ true

-- the path of a file in one of them, below `objects`
abbrev pub IsPathAmong : {V : Type 0} → (V → Folders) → ℕ → ℕ → List (Slot V) → List ℕ → Type 0
IsPathAmong {V} files first past old path =
    (l : ℕ) × (k : Kept V) × (first ≤ l) × (l < past) × (slice_get old l ≡ Some (slots.Open k)) × IsPathBelow (contents (files k.volume)) path

-- the paths are those of all files of the device's volumes, in byte order, each once
abbrev pub ListsFiles : {V K : Type 0} → (V → Bool) → (V → Folders) → AllNodes V K → ℕ → List (List ℕ) → Type 0
ListsFiles tells files w device paths =
    AllTell tells (first_of w.lock_bits device) (past_of w.lock_bits device) w.slots
    → ListsAll paths (IsPathAmong files (first_of w.lock_bits device) (past_of w.lock_bits device) w.slots)

module _ {V : Type 0} (tells : V → Bool) (files : V → Folders) (faults : V → ℕ) where
  -- the directory was looked at, and nothing of it changed but counts of calls
  pub record IsLookedAt (k n : Kept V) : Type 0 where
    pub looks : OnlyLooks tells files faults k n
    pub journal : n.journal ≡ k.journal
    pub held : (hash : Hash) → values_of tells files faults n hash ≡ values_of tells files faults k hash

  -- the directories from one lock on, up to another, may have been looked at
  pub record AreLookedAt (first past : ℕ) (old new : List (Slot V)) : Type 0 where
    pub within : (l : ℕ) (k : Kept V) → slice_get old l ≡ Some (slots.Open k) → (n : Kept V) × (slice_get new l ≡ Some (slots.Open n)) × IsLookedAt k n
    pub outside : (l : ℕ) → (l < first) ⊎ (past ≤ l) → slice_get new l ≡ slice_get old l
    pub count : length new ≡ length old

  -- no volume counted a fault
  abbrev pub AreCalm : List (Slot V) → List (Slot V) → Type 0
  AreCalm old new = (l : ℕ) → (seen_of tells files faults (slice_get new l)).faults ≡ (seen_of tells files faults (slice_get old l)).faults
