-- Steps at records: which record a step finds, what it makes of it, and what it has to look at. (This project's own. OpenStack Swift's object server
-- files such records, and its updater takes them away.)
use Rattle.std.specs.Prelude.{ℕ, Bool, true, false, not, ◌||◌, List, [], ◌∷◌, map, Option, None, Some, if◌then◌else◌}
use Rattle.std.specs.List.{list_any}
use Rattle.std.specs.Str.{bytes_eq}
use Rattle.sw_hashpath.specs.declared.name.Name.{Name}
use Rattle.sw_pending.specs.Records.{key_of, marked, new_record}
use Rattle.sw_pending.specs.Rules.{are_done, is_done}
use Rattle.sw_pending.specs.declared.filed.Filed.{Filed}
use Rattle.sw_pending.specs.declared.key.RecordKey.{RecordKey}
use Rattle.sw_state.specs.declared.state.State.{State}
use Rattle.sw_object_steps.specs.Journals.{Hash}
use Rattle.sw_object_steps.specs.Outlines.{is_before, outline_of, standing_time}
use Rattle.sw_object_steps.specs.Values.{ObjValue, is_same_key}
use Rattle.sw_object_steps.specs.declared.change.Change.{Change}
use Rattle.sw_object_steps.specs.declared.change.Change.TheVariants.{Put, Post, Delete, Receive, MarkRecord, DropRecord}
use Rattle.sw_object_steps.specs.declared.entry.ObjEntry.{ObjEntry}
use Rattle.sw_object_steps.specs.declared.entry.ObjEntry.TheVariants.{Dropped, Files, Marked, Wrote}

-- whether the step writes. Every other one is one at a record
abbrev pub is_write : Change → Bool
is_write (Put time content none_match) = true
is_write (Post time heads) = true
is_write (Delete time if_delete_at) = true
is_write (Receive write) = true
is_write (MarkRecord filed device) = false
is_write (DropRecord filed all) = false

-- ---- writes

-- the records that a write files before its file: one where a client puts or deletes an object
abbrev pub records_for : Name → Change → List Filed
records_for name (Put time content none_match) = new_record name time ∷ []
records_for name (Post time heads) = []
records_for name (Delete time if_delete_at) = new_record name time ∷ []
records_for name (Receive write) = []
records_for name (MarkRecord filed device) = []
records_for name (DropRecord filed all) = []

-- the entries of a step that filed these, and came no further
abbrev pub filed_entries : Hash → List Filed → List ObjEntry
filed_entries by records = map (λ filed. Files by filed) records

-- each of these is filed by itself
abbrev pub filings : Hash → List Filed → List (List ObjEntry)
filings by records = map (λ filed. Files by filed ∷ []) records

-- ---- steps at a record

-- the record, where it is one of this key, as each one is that was filed for it
abbrev pub of_key : RecordKey → Option Filed → Option Filed
of_key key None = None
of_key key (Some filed) = if is_same_key (key_of filed) key then Some filed else None

-- the record that a step under a hash finds: one of a name with that hash
abbrev pub found : ObjValue → Hash → Filed → Option Filed
found v hash filed = if bytes_eq filed.name.hash hash then of_key (key_of filed) (v.records (key_of filed)) else None

-- whether nothing stands that is as late as this time
abbrev pub is_gone : State → ℕ → Bool
is_gone s time = is_before (standing_time (outline_of s)) time

abbrev pub is_there : Option Filed → Bool
is_there None = false
is_there (Some stood) = true

-- a device is marked once, at a record that stands
abbrev pub marking_entries : Hash → Option Filed → ℕ → List ObjEntry
marking_entries hash None device = []
marking_entries hash (Some stood) device = if is_done device stood.done then [] else Marked hash (marked stood device) device ∷ []

-- whether a record that stands may go: all these devices were told, or nothing is left to tell
abbrev pub may_go : Option Filed → List ℕ → Bool → Bool
may_go None all gone = false
may_go (Some stood) all gone = are_done all stood.done || gone

abbrev pub dropping_entries : Hash → Option Filed → Bool → List ObjEntry
dropping_entries hash None goes = []
dropping_entries hash (Some stood) goes = if goes then Dropped hash stood ∷ [] else []

-- the entries of a step at a record
abbrev pub record_entries : ObjValue → Hash → Change → List ObjEntry
record_entries v hash (MarkRecord filed device) = marking_entries hash (found v hash filed) device
record_entries v hash (DropRecord filed all) =
    dropping_entries hash (found v hash filed) (may_go (found v hash filed) all (is_gone v.state filed.time))
record_entries v hash change = []

-- of a mark whether the record stands, of a drop whether it went
abbrev pub is_taken : ObjValue → Hash → Change → Bool
is_taken v hash (MarkRecord filed device) = is_there (found v hash filed)
is_taken v hash (DropRecord filed all) = may_go (found v hash filed) all (is_gone v.state filed.time)
is_taken v hash change = false

-- ---- what a step looks at

-- whether the record alone doesn't tell if it may go
abbrev pub asks_base : Option Filed → List ℕ → Bool
asks_base None all = false
asks_base (Some stood) all = not (are_done all stood.done)

-- whether the step lists the directory of its hash
abbrev pub lists : ObjValue → Hash → Change → Bool
lists v hash (MarkRecord filed device) = false
lists v hash (DropRecord filed all) = asks_base (found v hash filed) all
lists v hash change = true

-- the keys of the records whose files it reads, puts or unlinks, where nothing refuses it
abbrev pub step_files : Hash → Name → Change → List RecordKey
step_files hash name (MarkRecord filed device) = if bytes_eq filed.name.hash hash then key_of filed ∷ [] else []
step_files hash name (DropRecord filed all) = if bytes_eq filed.name.hash hash then key_of filed ∷ [] else []
step_files hash name change = map key_of (records_for name change)

-- ---- doubts

-- the keys of the records that an entry changes
abbrev pub entry_files : ObjEntry → List RecordKey
entry_files (Wrote name write records) = map key_of records
entry_files (Files by filed) = key_of filed ∷ []
entry_files (Marked by filed device) = key_of filed ∷ []
entry_files (Dropped by filed) = key_of filed ∷ []

-- whether it is a write
abbrev pub is_wrote : ObjEntry → Bool
is_wrote (Wrote name write records) = true
is_wrote (Files by filed) = false
is_wrote (Marked by filed device) = false
is_wrote (Dropped by filed) = false

-- whether a change has a write
abbrev pub doubts_write : List ObjEntry → Bool
doubts_write change = list_any is_wrote change

-- whether it changes the record of this key
abbrev pub doubts_record : RecordKey → List ObjEntry → Bool
doubts_record key change = list_any (λ entry. list_any (λ other. is_same_key key other) (entry_files entry)) change

-- whether it changes any record
abbrev pub doubts_records : List ObjEntry → Bool
doubts_records change = list_any (λ entry. list_any (λ other. true) (entry_files entry)) change
