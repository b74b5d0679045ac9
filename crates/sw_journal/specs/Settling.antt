-- How a doubt is settled: that of a write by a listing of its directory, and that of a record by a read of its file. (This project's own.)
use Rattle.std.specs.Prelude.{◌≡◌, ◌≢◌, true, List, [], ◌∷◌, ◌++◌, Option, ◌⊎◌, if◌then◌else◌}
use Rattle.sw_hashpath.specs.declared.name.Name.{Name}
use Rattle.sw_object_steps.specs.Journals.{Hash, Journal, written}
use Rattle.sw_object_steps.specs.Outlines.{is_new_to}
use Rattle.sw_object_steps.specs.declared.entry.ObjEntry.{ObjEntry}
use Rattle.sw_object_steps.specs.declared.entry.ObjEntry.TheVariants.{Wrote}
use Rattle.sw_object_steps.specs.declared.outline.Outline.{Outline}
use Rattle.sw_pending.specs.declared.filed.Filed.{Filed}
use Rattle.sw_pending.specs.declared.key.RecordKey.{RecordKey}
use Rattle.sw_state.specs.Writes.{tag_of}
use Rattle.sw_state.specs.declared.write.Write.{Write}
use Rattle.sw_journal.specs.Entries.{about_record, is_record_of, record_left}

-- ---- one of a write

-- what the doubt of this write, which stands between others, leaves of the journal: where the write would change what now stands, it
-- wasn't made, and the doubt goes; else it was made, and becomes the last entry
abbrev pub settled_by : Outline → Journal → List ObjEntry → Name → Write → List Filed → List ObjEntry → Journal
settled_by o j before name w records behind =
    if is_new_to o w.time (tag_of w.kind) then record j { doubts = before ++ behind }
    else record j { entries = j.entries ++ Wrote name w records ∷ []; doubts = before ++ behind }

-- a journal has a doubt of a write of the hash, none before it, and this is what it leaves
pub record SettlesOne (hash : Hash) (o : Outline) (j after : Journal) : Type 0 where
  pub before : List ObjEntry
  pub name : Name
  pub write : Write
  pub records : List Filed
  pub behind : List ObjEntry
  pub among : j.doubts ≡ before ++ Wrote name write records ∷ behind
  pub first : written hash before ≡ []
  pub of_hash : name.hash ≡ hash
  pub settled : after ≡ settled_by o j before name write records behind

-- the first doubt of a write of the hash is settled, where there is one
abbrev pub SettlesFirst : Hash → Outline → Journal → Journal → Type 0
SettlesFirst hash o j after = ((written hash j.doubts ≡ []) × (after ≡ j)) ⊎ SettlesOne hash o j after

-- ---- one of a record

-- what the doubt of a change of a record leaves of the journal: where what now stands is what the change leaves, it was made, and becomes the last
-- entry; else it wasn't, and the doubt goes
abbrev pub IsSettledBy : Option Filed → Journal → List ObjEntry → ObjEntry → List ObjEntry → Journal → Type 0
IsSettledBy stood j before entry behind after =
    ((stood ≡ record_left entry) × (after ≡ record j { entries = j.entries ++ entry ∷ []; doubts = before ++ behind }))
    ⊎ ((stood ≢ record_left entry) × (after ≡ record j { doubts = before ++ behind }))

-- a journal has a doubt of the record of the key, none before it, and this is what it leaves
pub record SettlesRecord (key : RecordKey) (stood : Option Filed) (j after : Journal) : Type 0 where
  pub before : List ObjEntry
  pub entry : ObjEntry
  pub behind : List ObjEntry
  pub among : j.doubts ≡ before ++ entry ∷ behind
  pub first : about_record key before ≡ []
  pub of_key : is_record_of key entry ≡ true
  pub settled : IsSettledBy stood j before entry behind after

-- the first doubt of the record of the key is settled, where there is one
abbrev pub SettlesFirstRecord : RecordKey → Option Filed → Journal → Journal → Type 0
SettlesFirstRecord key stood j after = ((about_record key j.doubts ≡ []) × (after ≡ j)) ⊎ SettlesRecord key stood j after
