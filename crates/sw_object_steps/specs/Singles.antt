-- The history of an object lock of which each doubt is one entry, as directories of files keep it, and how it is told by the rules: each doubt is a
-- change of its own. (This project's own.)
use Rattle.std.specs.Prelude.{List, [], ◌∷◌, map}
use Rattle.std.specs.List.{filter}
use Rattle.sw_history.specs.Halves.{HistoryOf}
use Rattle.sw_object_steps.specs.Journals.{Hash, Journal}
use Rattle.sw_object_steps.specs.Recorded.{doubts_record}
use Rattle.sw_object_steps.specs.Rules.{ObjHistory, ObjJournal, obj_rules}
use Rattle.sw_object_steps.specs.Values.{ObjValue}
use Rattle.sw_object_steps.specs.declared.entry.ObjEntry.{ObjEntry}
use Rattle.sw_pending.specs.declared.key.RecordKey.{RecordKey}
use Rattle.sw_step.specs.Rules.{about, stands as stands_by}

abbrev pub History : Type 0
History = HistoryOf Hash ObjValue ObjEntry ObjEntry

abbrev pub single_journal : Journal → ObjJournal
single_journal j = record {
  entries = j.entries;
  doubts = map (λ entry. entry ∷ []) j.doubts;
  max_entries = j.max_entries;
  max_bytes = j.max_bytes;
}

abbrev pub single_history : History → ObjHistory
single_history h = record { told = h.told; opening = h.opening; journal = single_journal h.journal; faults = h.faults }

-- what a hash stands for, by the entries. Doubts that are not settled don't count
abbrev pub stands : History → Hash → ObjValue
stands h hash = stands_by obj_rules (single_history h) hash

-- the entries of a hash that change the record of this key, in order
abbrev pub recorded : Hash → RecordKey → List ObjEntry → List ObjEntry
recorded hash key entries = filter (λ entry. doubts_record key (entry ∷ [])) (about obj_rules hash entries)
