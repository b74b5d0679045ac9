-- The entries and doubts of a journal, and what each call makes of them. (This project's own.)
use Rattle.std.specs.Prelude.{◌≡◌, ℕ, ◌+◌, ◌<◌, ◌≤◌, Bool, true, false, List, [], ◌∷◌, ◌++◌, length, slice_index_or, take, Option, None, Some, find}
use Rattle.std.specs.List.{filter}
use Rattle.std.specs.Str.{bytes_eq}
use Rattle.std.specs.declared.alloc.Global.{Global}
use Rattle.std.specs.declared.vec.Vec.{Vec}
use Rattle.sw_object_steps.specs.Journals.{Hash, Journal, bodies}
use Rattle.sw_object_steps.specs.Outlines.{is_new_to}
use Rattle.sw_object_steps.specs.Values.{is_same_key}
use Rattle.sw_object_steps.specs.declared.entry.ObjEntry.{ObjEntry}
use Rattle.sw_object_steps.specs.declared.entry.ObjEntry.TheVariants.{Dropped, Files, Marked, Wrote}
use Rattle.sw_object_steps.specs.declared.outline.Outline.{Outline}
use Rattle.sw_pending.specs.Records.{key_of}
use Rattle.sw_pending.specs.declared.filed.Filed.{Filed}
use Rattle.sw_pending.specs.declared.key.RecordKey.{RecordKey}
use Rattle.sw_state.specs.Writes.{tag_of}

-- ---- an entry

-- whether it is a write of this hash
abbrev pub is_write_of : Hash → ObjEntry → Bool
is_write_of hash (Wrote name w records) = bytes_eq name.hash hash
is_write_of hash (Files by filed) = false
is_write_of hash (Marked by filed device) = false
is_write_of hash (Dropped by filed) = false

-- whether it is about the record of this key alone
abbrev pub is_record_of : RecordKey → ObjEntry → Bool
is_record_of key (Wrote name w records) = false
is_record_of key (Files by filed) = is_same_key key (key_of filed)
is_record_of key (Marked by filed device) = is_same_key key (key_of filed)
is_record_of key (Dropped by filed) = is_same_key key (key_of filed)

-- the entries that are about the record of this key alone, in order
abbrev pub about_record : RecordKey → List ObjEntry → List ObjEntry
about_record key entries = filter (is_record_of key) entries

-- whether its write would change what has this outline
abbrev pub is_new_entry : Outline → ObjEntry → Bool
is_new_entry o (Wrote name w records) = is_new_to o w.time (tag_of w.kind)
is_new_entry o (Files by filed) = false
is_new_entry o (Marked by filed device) = false
is_new_entry o (Dropped by filed) = false

-- the record that it leaves of its key
abbrev pub record_left : ObjEntry → Option Filed
record_left (Wrote name w records) = None
record_left (Files by filed) = Some filed
record_left (Marked by filed device) = Some filed
record_left (Dropped by filed) = None

-- the first write of a hash
abbrev pub first_in : Hash → List ObjEntry → Option ObjEntry
first_in hash entries = find (is_write_of hash) entries

-- the first entry that is about a record alone
abbrev pub first_about : RecordKey → List ObjEntry → Option ObjEntry
first_about key entries = find (is_record_of key) entries

-- the first entry of those that meet a test stands there
pub record IsFirstOf (test : ObjEntry → Bool) (entries : List ObjEntry) (at : ℕ) : Type 0 where
  pub within : at < length entries
  pub meets : (other : ObjEntry) → test (slice_index_or entries at other) ≡ true
  pub first : filter test (take at entries) ≡ []

-- ---- a journal

-- an empty journal with these limits
abbrev pub begun : ℕ → ℕ → Journal
begun max_entries max_bytes = record { entries = []; doubts = []; max_entries = max_entries; max_bytes = max_bytes }

abbrev pub with_new_doubt : Journal → ObjEntry → Journal
with_new_doubt j entry = record j { doubts = j.doubts ++ entry ∷ [] }

-- a journal whose doubts are these and then that of an entry, which was made
abbrev pub with_last_entered : Journal → List ObjEntry → ObjEntry → Journal
with_last_entered j doubts entry = record j { entries = j.entries ++ entry ∷ []; doubts = doubts }

-- a journal with this entry behind these, and these doubts
abbrev pub with_write_entered : Journal → List ObjEntry → List ObjEntry → ObjEntry → Journal
with_write_entered j before doubts entry = record j { entries = before ++ entry ∷ []; doubts = doubts }

-- that of `with_last_entered`, where it wasn't made
abbrev pub without_last_doubt : Journal → List ObjEntry → Journal
without_last_doubt j doubts = record j { doubts = doubts }

-- `used` is the bytes of all bodies, which the limit allows, and there is a place for the entry of each doubt
pub record IsCounted (entries doubts : Vec ObjEntry Global) (used max_bytes : ℕ) : Type 0 where
  pub counted : used ≡ bodies entries.items + bodies doubts.items
  pub within : used ≤ max_bytes
  pub places : length entries.items + length doubts.items ≤ entries.cap
