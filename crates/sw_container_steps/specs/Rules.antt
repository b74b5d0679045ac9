-- The rules of container locks, and one step at one lock by them. (OpenStack Swift's container server; what a lock remembers of a step is this
-- project's own.)
use Rattle.std.specs.Prelude.{◌≡◌, ℕ, ◌+◌, ◌^◌, ◌-◌, Bool, true, ◌&&◌, nat_le, List, [], ◌∷◌, length, Option, Result, Ok, Err}
use Rattle.sw_hashpath.specs.declared.place.Place.{Place}
use Rattle.sw_keeper.specs.declared.tables.Tables.{Tables}
use Rattle.sw_step.specs.Journals.{StepHistory, StepJournal, flat}
use Rattle.sw_step.specs.Rules.{Damages, Ending, Fails, Makes, Overflows, Refuses, RulesOf, Wants}
use Rattle.sw_step.specs.Steps.{IsDamaged, IsLost, IsWanting, Look, StepChanges, StepReads, Tells}
use Rattle.sw_container_steps.specs.Entries.{entered, is_same_place, place_in, rows_in, top_of}
use Rattle.sw_container_steps.specs.Steps.{cont_made_answer, cont_refusal, entries_for}
use Rattle.sw_container_steps.specs.declared.cont_answer.ContAnswer.{ContAnswer}
use Rattle.sw_container_steps.specs.declared.cont_answer.ContAnswer.TheVariants as answers
use Rattle.sw_container_steps.specs.declared.cont_change.ContChange.{ContChange}
use Rattle.sw_container_steps.specs.declared.cont_entry.ContEntry.{ContEntry}

abbrev pub ContJournal : Type 0
ContJournal = StepJournal ContEntry

abbrev pub ContHistory : Type 0
ContHistory = StepHistory Place (Option Tables) ContEntry

-- ---- the rules

-- its single changes: a batch is committed whole, or not at all, and a step that has nothing to change commits none
abbrev pub one_batch : List ContEntry → List (List ContEntry)
one_batch [] = []
one_batch (entry ∷ entries) = (entry ∷ entries) ∷ []

-- whether the journal has room for these entries, and the container numbers for their rows. A step that changes nothing has none, and
-- needs no room
abbrev pub cont_room : ContJournal → Option Tables → List ContEntry → Bool
cont_room j t [] = true
cont_room j t (entry ∷ entries) =
    nat_le (length j.entries + length (flat j.doubts) + length (entry ∷ entries)) j.max_entries
    && nat_le (top_of t + rows_in (entry ∷ entries)) (2 ^ 64 - 1)

abbrev pub cont_ending : ContAnswer → Ending
cont_ending (answers.New front) = Makes
cont_ending (answers.There front) = Makes
cont_ending (answers.Done front) = Makes
cont_ending answers.JournalFull = Overflows
cont_ending answers.Failed = Fails
cont_ending answers.NoMemory = Wants
cont_ending answer = Refuses

-- A lock has one doubt at most, of any of its places, and every step settles it first
abbrev pub cont_rules : RulesOf Place (Option Tables) ContEntry ContChange ContAnswer
cont_rules = record {
  is_key = is_same_place;
  key_of = place_in;
  applied = entered;
  refusal = cont_refusal;
  entries_for = entries_for;
  changes_for = λ t place change. one_batch (entries_for t place change);
  has_room = cont_room;
  made_answer = λ t place change front. cont_made_answer t change front;
  ending = cont_ending;
  is_for = λ place change. true;
  touches = λ t place change doubt. true;
  reaches = λ place other. true;
}

-- ---- one step at one lock, which holds s under each of its places

-- a step that may change a container, and t is what its place holds after it
abbrev pub ChangesContainer : Bool → ContHistory → (Place → Option Tables) → Place → ContChange → ContAnswer → ContHistory → Option Tables → Type 0
ChangesContainer alone h s place change answer g t = StepChanges cont_rules alone h s place change answer g t

-- how a read ended, by the ending of what it got
abbrev pub look_by : Ending → Look
look_by Fails = IsLost
look_by Wants = IsWanting
look_by Damages = IsDamaged
look_by ending = Tells

module _ {A : Type 0} where
  abbrev pub cont_look : Result A ContAnswer → Look
  cont_look (Ok got) = Tells
  cont_look (Err answer) = look_by (cont_ending answer)

  -- a step that reads one container, and gets what `reading` tells of its tables and the front
  abbrev pub ReadsContainer : Bool → ContHistory → Place → (Option Tables → ℕ → Result A ContAnswer) → Result A ContAnswer → ContHistory →
      (Place → Option Tables) → Type 0
  ReadsContainer alone h place reading got g t =
      StepReads cont_rules alone h (λ key. true) (λ doubt. true) cont_look (λ read front x. x ≡ reading (read place) front) got g t

-- ---- the same of a device whose places are under several locks: `lock` tells which. A step tells of all places under its own

pub record ChangesUnder (lock : Place → ℕ) (alone : Bool) (h : ContHistory) (s : Place → Option Tables) (place : Place) (change : ContChange)
    (answer : ContAnswer) (g : ContHistory) (t : Option Tables) : Type 0 where
  pub held : Place → Option Tables  -- what the lock holds
  pub is_held : alone ≡ true → (p : Place) → lock p ≡ lock place → held p ≡ s p
  pub step : ChangesContainer alone h held place change answer g t

pub record ReadsUnder {A : Type 0} (lock : Place → ℕ) (alone : Bool) (h : ContHistory) (place : Place)
    (reading : Option Tables → ℕ → Result A ContAnswer) (got : Result A ContAnswer) (g : ContHistory) (t : Place → Option Tables) : Type 0 where
  pub held : Place → Option Tables
  pub is_held : alone ≡ true → (p : Place) → lock p ≡ lock place → held p ≡ t p
  pub step : ReadsContainer alone h place reading got g held
