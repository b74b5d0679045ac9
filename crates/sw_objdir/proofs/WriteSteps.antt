-- What the rules say of a step that writes.
use Rattle.std.proofs.Common.{◌≡◌, ℕ, true, List, [], ◌∷◌, ◌++◌, refl, ◌∙◌, ap, None}
use Rattle.std.specs.List.{list_any}
use Rattle.sw_hashpath.specs.declared.name.Name.{Name}
use Rattle.sw_object_steps.proofs.Singles.{none-touched, room-single, singles}
use Rattle.sw_object_steps.specs.Journals.{Hash, Journal, has_room, written}
use Rattle.sw_object_steps.specs.Outlines.{outline_of}
use Rattle.sw_object_steps.specs.Recorded.{filings, is_write, records_for, step_files}
use Rattle.sw_object_steps.specs.Rules.{Writes, obj_changes, obj_entries, obj_made_answer, obj_room, obj_rules, obj_touches}
use Rattle.sw_object_steps.specs.Singles.{recorded, single_journal}
use Rattle.sw_object_steps.specs.Steps.{made_answer, refusal_of, write_of}
use Rattle.sw_object_steps.specs.Values.{ObjValue, is_same_key}
use Rattle.sw_object_steps.specs.declared.change.Change.{Change}
use Rattle.sw_object_steps.specs.declared.change.Change.TheVariants.{Receive}
use Rattle.sw_object_steps.specs.declared.entry.ObjEntry.{ObjEntry}
use Rattle.sw_object_steps.specs.declared.entry.ObjEntry.TheVariants.{Wrote}
use Rattle.sw_objdir.specs.Calling.{entry_of}
use Rattle.sw_pending.specs.declared.key.RecordKey.{RecordKey}
use Rattle.sw_state.specs.declared.write.Write.{Write}
use Rattle.sw_step.specs.Rules.{NoneOf, doubts_about}

-- no change is in doubt of a record that the step files
abbrev pub NoneFiled : Hash → Name → Change → List ObjEntry → Type 0
NoneFiled hash name change ds =
    (key : RecordKey) → list_any (λ other. is_same_key key other) (step_files hash name change) ≡ true → recorded hash key ds ≡ []

-- one that another device has written files none
pub none-received : (hash : Hash) (name : Name) (w : Write) (ds : List ObjEntry) → NoneFiled hash name (Receive w) ds
none-received hash name w ds key is = cc

module _ (v : ObjValue) (hash : Hash) (name : Name) (change : Change) (writes : is_write change ≡ true) where
  -- it settles the doubts of writes, and those of its records where nothing refuses it
  pub write-touches : (ds : List ObjEntry) → written hash ds ≡ [] → (refusal_of v.state change ≡ None → NoneFiled hash name change ds)
      → NoneOf (obj_touches v hash (Writes name change)) (doubts_about obj_rules hash (singles ds))
  write-touches ds none records = none-touched v hash name change ds (λ is. none) records

  pub entries-are : obj_entries v hash (Writes name change) ≡ entry_of name change ∷ []
  entries-are = rw writes refl

  pub changes-are : obj_changes v hash (Writes name change) ≡ filings name.hash (records_for name change) ++ (Wrote name (write_of change) [] ∷ []) ∷ []
  changes-are = rw writes refl

  pub answer-is : (front : ℕ) → obj_made_answer v hash (Writes name change) front ≡ made_answer (outline_of v.state) change front
  answer-is front = rw writes refl

  pub room-is : (j : Journal) → obj_room (single_journal j) v (obj_entries v hash (Writes name change)) ≡ has_room j (entry_of name change)
  room-is j = ap (obj_room (single_journal j) v) entries-are ∙ room-single j (entry_of name change)
