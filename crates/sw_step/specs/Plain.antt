-- A plain lock: what the clauses of a step ask for can be met, by each of its ends. (This project's own.)
use Rattle.std.specs.Prelude.{◌≡◌, ℕ, ◌+◌, Bool, true, List, [], ◌∷◌, ◌++◌, length, None, Some, if◌then◌else◌}
use Rattle.std.specs.List.{fold}
use Rattle.sw_step.specs.Journals.{StepHistory, StepJournal, flat}
use Rattle.sw_step.specs.Rules.{CanStand, Fails, Makes, NoneOf, Refuses, RulesOf, doubts_about}
use Rattle.sw_step.specs.Steps.{StepChanges, OnlySettles}

module _ {K V E C A : Type 0} (r : RulesOf K V E C A) where
  abbrev pub with_journal : StepHistory K V E → StepJournal E → ℕ → StepHistory K V E
  with_journal h j faults = record h { journal = j; faults = faults }

  -- a lock as it is when a step has settled what it has to: the history at the step's start, now, and what it holds under each key
  pub record IsReady (h before : StepHistory K V E) (s : K → V) (key : K) (change : C) : Type 0 where
    pub own : r.is_for key change ≡ true
    pub same : before ≡ record h { journal = before.journal }
    pub settles : OnlySettles r (r.reaches key) h before
    pub more : (es : List E) × (before.journal.entries ≡ h.journal.entries ++ es)
    pub max_entries : before.journal.max_entries ≡ h.journal.max_entries
    pub max_bytes : before.journal.max_bytes ≡ h.journal.max_bytes
    pub none : NoneOf (r.touches (s key) key change) (doubts_about r key before.journal.doubts)
    pub reached : r.reaches key key ≡ true
    pub kept : (other : K) → r.reaches key other ≡ true → CanStand r before other (s other)

  -- it is made
  abbrev pub CanMake : Type 0
  CanMake = (h before : StepHistory K V E) (s : K → V) (key : K) (change : C) → IsReady h before s key change → r.refusal (s key) key change ≡ None
      → r.has_room before.journal (s key) (r.entries_for (s key) key change) ≡ true
      → r.ending (r.made_answer (s key) key change (length (before.journal.entries ++ r.entries_for (s key) key change))) ≡ Makes
      → StepChanges r true h s key change (r.made_answer (s key) key change (length (before.journal.entries ++ r.entries_for (s key) key change)))
      (with_journal before (record before.journal { entries = before.journal.entries ++ r.entries_for (s key) key change }) before.faults)
      (fold r.applied (s key) (r.entries_for (s key) key change))

  -- it stops at any of its changes, whose call failed: with the change or without it
  abbrev pub CanStop : Type 0
  CanStop = (h before : StepHistory K V E) (s : K → V) (key : K) (change : C) (answer : A) (first : List (List E)) (here : List E) (behind : List (List E))
      (was : Bool) → IsReady h before s key change → r.refusal (s key) key change ≡ None
      → r.has_room before.journal (s key) (r.entries_for (s key) key change) ≡ true
      → r.ending answer ≡ Fails → r.changes_for (s key) key change ≡ first ++ here ∷ behind
      → StepChanges r true h s key change answer
      (with_journal before (record before.journal { entries = before.journal.entries ++ flat first; doubts = before.journal.doubts ++ here ∷ [] })
      (before.faults + 1))
      (fold r.applied (s key) (flat first ++ (if was then here else [])))

  -- it is refused
  abbrev pub CanRefuse : Type 0
  CanRefuse = (h before : StepHistory K V E) (s : K → V) (key : K) (change : C) (answer : A) → IsReady h before s key change
      → r.refusal (s key) key change ≡ Some answer → r.ending answer ≡ Refuses → StepChanges r true h s key change answer before (s key)
