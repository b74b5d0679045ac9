-- The rules of object locks. (OpenStack Swift's object server; what a lock remembers of a step is this project's own.)
use Rattle.std.specs.Prelude.{ℕ, Bool, true, ◌&&◌, ◌||◌, List, [], ◌∷◌, ◌++◌, Option, None, Some, if◌then◌else◌}
use Rattle.std.specs.List.{list_any}
use Rattle.std.specs.Str.{bytes_eq}
use Rattle.sw_hashpath.specs.declared.name.Name.{Name}
use Rattle.sw_object_steps.specs.Journals.{Hash, Journal, has_room}
use Rattle.sw_object_steps.specs.Outlines.{outline_of}
use Rattle.sw_object_steps.specs.Recorded.{doubts_record, doubts_write, filings, is_taken, is_write, lists, record_entries, records_for, step_files}
use Rattle.sw_object_steps.specs.Steps.{made_answer, refusal_of, write_of}
use Rattle.sw_object_steps.specs.declared.answer.Answer.{Answer}
use Rattle.sw_object_steps.specs.declared.answer.Answer.TheVariants as answers
use Rattle.sw_object_steps.specs.declared.change.Change.{Change}
use Rattle.sw_object_steps.specs.declared.entry.ObjEntry.{ObjEntry}
use Rattle.sw_object_steps.specs.declared.entry.ObjEntry.TheVariants.{Dropped, Files, Marked, Wrote}
use Rattle.sw_state.specs.States.{joined}
use Rattle.sw_step.specs.Journals.{StepHistory, StepJournal, flat}
use Rattle.sw_step.specs.Rules.{Damages, Ending, Fails, Makes, Overflows, Refuses, RulesOf, Wants}
use Rattle.sw_pending.specs.Records.{key_of}
use Rattle.sw_pending.specs.declared.key.RecordKey.{RecordKey}
use Rattle.sw_object_steps.specs.Values.{ObjValue, set_record, with_record, with_records}

abbrev pub ObjJournal : Type 0
ObjJournal = StepJournal ObjEntry

abbrev pub ObjHistory : Type 0
ObjHistory = StepHistory Hash ObjValue ObjEntry

-- a step that may change what stands under a hash
pub data ObjChange : Type 0 where
  Writes : (name : Name) (change : Change) → ObjChange

-- the same journal, with the entries of its doubts in one list
abbrev pub flat_journal : ObjJournal → Journal
flat_journal j = record { entries = j.entries; doubts = flat j.doubts; max_entries = j.max_entries; max_bytes = j.max_bytes }

-- what an entry leaves
abbrev pub obj_applied : ObjValue → ObjEntry → ObjValue
obj_applied v (Wrote name w records) = record { state = joined v.state w; records = with_records v.records records }
obj_applied v (Files by filed) = record v { records = with_record v.records filed }
obj_applied v (Marked by filed device) = record v { records = with_record v.records filed }
obj_applied v (Dropped by filed) = record v { records = set_record v.records (key_of filed) None }

-- under which hash it is
abbrev pub obj_key : ObjEntry → Hash
obj_key (Wrote name w records) = name.hash
obj_key (Files by filed) = by
obj_key (Marked by filed device) = by
obj_key (Dropped by filed) = by

abbrev pub obj_refusal : ObjValue → Hash → ObjChange → Option Answer
obj_refusal v hash (Writes name change) = refusal_of v.state change

-- a write is one entry, with the records that were filed for it
abbrev pub obj_entries : ObjValue → Hash → ObjChange → List ObjEntry
obj_entries v hash (Writes name change) =
    if is_write change then Wrote name (write_of change) (records_for name change) ∷ [] else record_entries v hash change

-- entries that are made at once, where there are any
abbrev pub at_once : List ObjEntry → List (List ObjEntry)
at_once [] = []
at_once (entry ∷ entries) = (entry ∷ entries) ∷ []

-- its single changes: each file is put, or taken away, whole, or not at all. The records of a write come before its own file
abbrev pub obj_changes : ObjValue → Hash → ObjChange → List (List ObjEntry)
obj_changes v hash (Writes name change) =
    if is_write change then filings name.hash (records_for name change) ++ (Wrote name (write_of change) [] ∷ []) ∷ []
    else at_once (record_entries v hash change)

-- a step enters one entry at most
abbrev pub obj_room : ObjJournal → ObjValue → List ObjEntry → Bool
obj_room j v [] = true
obj_room j v (entry ∷ entries) = has_room (flat_journal j) entry

abbrev pub obj_made_answer : ObjValue → Hash → ObjChange → ℕ → Answer
obj_made_answer v hash (Writes name change) front =
    if is_write change then made_answer (outline_of v.state) change front else answers.Took (is_taken v hash change)

abbrev pub obj_ending : Answer → Ending
obj_ending (answers.Done front) = Makes
obj_ending (answers.Buried front) = Makes
obj_ending (answers.Took is) = Makes
obj_ending answers.JournalFull = Overflows
obj_ending (answers.Damaged bad) = Damages
obj_ending answers.Failed = Fails
obj_ending answers.NoMemory = Wants
obj_ending answer = Refuses

abbrev pub is_for : Hash → ObjChange → Bool
is_for hash (Writes name change) = bytes_eq name.hash hash

-- a step that was refused comes to the file of no record
abbrev pub touched_files : Option Answer → Hash → Name → Change → List RecordKey
touched_files None hash name change = step_files hash name change
touched_files (Some refused) hash name change = []

-- Of the doubts of its hash it settles the writes, where it lists the directory, and those of the records whose files it reads, puts or unlinks
abbrev pub obj_touches : ObjValue → Hash → ObjChange → List ObjEntry → Bool
obj_touches v hash (Writes name change) doubt =
    (lists v hash change && doubts_write doubt)
    || list_any (λ key. doubts_record key doubt) (touched_files (refusal_of v.state change) hash name change)

-- and none of another hash
abbrev pub obj_reaches : Hash → Hash → Bool
obj_reaches hash other = bytes_eq other hash

abbrev pub obj_rules : RulesOf Hash ObjValue ObjEntry ObjChange Answer
obj_rules = record {
  is_key = bytes_eq;
  key_of = obj_key;
  applied = obj_applied;
  refusal = obj_refusal;
  entries_for = obj_entries;
  changes_for = obj_changes;
  has_room = obj_room;
  made_answer = obj_made_answer;
  ending = obj_ending;
  is_for = is_for;
  touches = obj_touches;
  reaches = obj_reaches;
}
