-- What contracts see of an object directory: a volume, and the journal of what was done with it. (This project's own.)
use Rattle.std.specs.Prelude.{◌≡◌, ℕ, ◌≤◌, Bool, true, ◌&&◌, [], length, None, if◌then◌else◌}
use Rattle.std.specs.List.{All}
use Rattle.std.specs.Str.{bytes_eq}
use Rattle.sw_hashdir.specs.Places.{AllInOrder, holds, in_order}
use Rattle.sw_hashpath.specs.declared.secrets.Secrets.{Secrets}
use Rattle.sw_journal.specs.Entries.{about_record, begun}
use Rattle.sw_object_steps.specs.Singles.{History, single_history}
use Rattle.sw_object_steps.specs.Rules.{ObjHistory, obj_rules}
use Rattle.sw_object_steps.specs.Values.{ObjValue, Records, bare}
use Rattle.sw_object_steps.specs.Journals.{Hash, Journal, written}
use Rattle.sw_object_steps.specs.declared.entry.ObjEntry.{ObjEntry}
use Rattle.sw_object_steps.specs.declared.entry.ObjEntry.TheVariants.{Dropped, Files, Marked, Wrote}
use Rattle.sw_pending.specs.declared.key.RecordKey.{RecordKey}
use Rattle.sw_pending_dir.specs.Places.{AllRecordsInOrder, record_at, records_in_order}
use Rattle.sw_state.specs.States.{state_of}
use Rattle.sw_state.specs.declared.state.State.{State}
use Rattle.sw_step.specs.Rules.{CanStand}
use Rattle.sw_volume.specs.Tree.{Folders}

-- a volume now and as the journal began, where its hashes' files are, and the journal
pub record Kept (V : Type 0) : Type 0 where
  pub volume : V
  pub began : V
  pub secrets : Secrets
  pub power : ℕ
  pub journal : Journal

-- a directory over this volume, with an empty journal of these limits
abbrev pub started : {V : Type 0} → V → Secrets → ℕ → ℕ → ℕ → Kept V
started volume secrets power max_entries max_bytes =
    record { volume = volume; began = volume; secrets = secrets; power = power; journal = begun max_entries max_bytes }

-- ---- what files stand for

-- the records that are filed under a hash: those of names with that hash
abbrev pub records_of : Secrets → Folders → Hash → Records
records_of secrets folders hash key = if bytes_eq key.hash hash then record_at secrets folders key else None

-- what stands under a hash: the state by the files of its directory, and its records by theirs
abbrev pub value_at : Secrets → ℕ → Folders → Hash → ObjValue
value_at secrets power folders hash = record { state = holds secrets power folders hash; records = records_of secrets folders hash }

-- whether each file that is named as a write's, or as a record's, is one of its place
abbrev pub are_in_order : Secrets → ℕ → Folders → Bool
are_in_order secrets power folders = in_order secrets power folders && records_in_order secrets folders

-- ---- doubts

-- the doubt of a write files no record, since these are filed before it; and that of a record is of the hash of its name
abbrev pub IsPlain : ObjEntry → Type 0
IsPlain (Wrote name w records) = records ≡ []
IsPlain (Files by filed) = by ≡ filed.name.hash
IsPlain (Marked by filed device) = by ≡ filed.name.hash
IsPlain (Dropped by filed) = by ≡ filed.name.hash

-- each hash stands for what the entries leave, with the doubts of it that were made; of its writes one is in doubt at most, and of the changes of
-- each record
pub record IsKept (h : History) (now : Hash → ObjValue) : Type 0 where
  pub can : h.told ≡ true → (hash : Hash) → CanStand obj_rules (single_history h) hash (now hash)
  pub single : (hash : Hash) → length (written hash h.journal.doubts) ≤ 1
  pub single_record : (key : RecordKey) → length (about_record key h.journal.doubts) ≤ 1
  pub plain : All IsPlain h.journal.doubts

module _ {V : Type 0} (tells : V → Bool) (files : V → Folders) (faults : V → ℕ) where
  -- whether the volume told its contents as the journal began, and was in order
  abbrev pub is_told : Kept V → Bool
  is_told k = tells k.began && are_in_order k.secrets k.power (files k.began)

  abbrev pub history_of : Kept V → History
  history_of k =
      record { told = is_told k; opening = λ hash. value_at k.secrets k.power (files k.began) hash; journal = k.journal; faults = faults k.volume }

  -- what stands under each hash now, where that is told
  abbrev pub values_of : Kept V → Hash → ObjValue
  values_of k hash = if is_told k then value_at k.secrets k.power (files k.volume) hash else bare (state_of [])

  abbrev pub held : Kept V → Hash → State
  held k hash = (values_of k hash).state

  -- the same by the rules: each doubt is a change of its own
  abbrev pub steps_of : Kept V → ObjHistory
  steps_of k = single_history (history_of k)

  -- the invariant of an object directory
  pub record IsDir (k : Kept V) : Type 0 where
    pub same : tells k.volume ≡ tells k.began
    pub order : is_told k ≡ true → AllInOrder k.secrets k.power (files k.volume)
    pub records_order : is_told k ≡ true → AllRecordsInOrder k.secrets (files k.volume)
    pub kept : IsKept (history_of k) (values_of k)
    pub least : 1 ≤ k.power
    pub greatest : k.power ≤ 32
