-- One step at one lock, from one history to the next. (This project's own.)
use Rattle.std.specs.Prelude.{◌≡◌, ℕ, suc, zero, Bool, true, false, List, [], ◌∷◌, ◌++◌, length, if◌then◌else◌, None, Some, ◌⊎◌}
use Rattle.std.specs.List.{fold}
use Rattle.sw_outside.specs.Faults.{HasRisen}
use Rattle.sw_history.specs.Halves.{GrowsOf}
use Rattle.sw_step.specs.Journals.{StepHistory, StepJournal, flat}
use Rattle.sw_step.specs.Rules.{CanStand, Damages, Ending, Fails, IsOf, Makes, NoneOf, Overflows, Refuses, RulesOf, Wants, doubts_about}

module _ {K V E C A : Type 0} (r : RulesOf K V E C A) where
  -- ---- settling

  -- one doubt of these keys goes, or goes and enters exactly what it doubted
  pub record SettlesOne (at : K → Bool) (j after : StepJournal E) : Type 0 where
    pub front : List (List E)
    pub doubt : List E
    pub behind : List (List E)
    pub among : j.doubts ≡ front ++ doubt ∷ behind
    pub is_at : (key : K) × (at key ≡ true) × IsOf r key doubt
    pub settled : (after ≡ record j { doubts = front ++ behind })
        ⊎ (after ≡ record j { entries = j.entries ++ doubt; doubts = front ++ behind })

  -- so many were settled, one after the other
  abbrev pub Settles : (K → Bool) → ℕ → StepJournal E → StepJournal E → Type 0
  Settles at zero j after = after ≡ j
  Settles at (suc n) j after = (mid : StepJournal E) × SettlesOne at j mid × Settles at n mid after

  -- between two histories only doubts of these keys were settled
  abbrev pub OnlySettles : (K → Bool) → StepHistory K V E → StepHistory K V E → Type 0
  OnlySettles at h g = (n : ℕ) × Settles at n h.journal g.journal

  -- ---- a step over a journal, answered by what stood

  -- nothing changes
  pub record Leaves (j : StepJournal E) (made : List E) (after : StepJournal E) : Type 0 where
    pub not_made : made ≡ []
    pub same : after ≡ j

  -- all of it was made
  pub record IsDone (read : V) (j : StepJournal E) (key : K) (change : C) (answer : A) (made : List E) (after : StepJournal E) : Type 0 where
    pub not_refused : r.refusal read key change ≡ None
    pub room : r.has_room j read (r.entries_for read key change) ≡ true
    pub is_made : made ≡ r.entries_for read key change
    pub entered : after ≡ record j { entries = j.entries ++ r.entries_for read key change }
    pub answer_is : answer ≡ r.made_answer read key change (length after.entries)

  pub record IsRefused (read : V) (j : StepJournal E) (key : K) (change : C) (answer : A) (made : List E) (after : StepJournal E) : Type 0 where
    pub leaves : Leaves j made after
    pub refused : r.refusal read key change ≡ Some answer

  pub record IsFull (read : V) (j : StepJournal E) (key : K) (change : C) (made : List E) (after : StepJournal E) : Type 0 where
    pub leaves : Leaves j made after
    pub not_refused : r.refusal read key change ≡ None
    pub full : r.has_room j read (r.entries_for read key change) ≡ false

  -- It stopped at one of its changes: those in front of it were made, none behind it. Where a call failed it may be in doubt, and then it was made or wasn't;
  -- else it wasn't
  pub record Stops (failed : Bool) (read : V) (j : StepJournal E) (key : K) (change : C) (made : List E) (after : StepJournal E) : Type 0 where
    pub not_refused : r.refusal read key change ≡ None
    pub room : r.has_room j read (r.entries_for read key change) ≡ true
    pub first : List (List E)
    pub here : List E
    pub behind : List (List E)
    pub cut : r.changes_for read key change ≡ first ++ here ∷ behind
    pub doubted : Bool
    pub may_doubt : doubted ≡ true → failed ≡ true
    pub is_made : (made ≡ flat first) ⊎ ((doubted ≡ true) × (made ≡ flat first ++ here))
    pub entered : after ≡ record j { entries = j.entries ++ flat first; doubts = j.doubts ++ (if doubted then here ∷ [] else []) }

  -- one that didn't come so far that it was answered by what stands
  abbrev pub EndsUnseen : Ending → StepJournal E → List E → StepJournal E → Type 0
  EndsUnseen Fails j made after = Leaves j made after
  EndsUnseen Wants j made after = Leaves j made after
  EndsUnseen Damages j made after = Leaves j made after
  EndsUnseen ending j made after = ⊥

  -- one that did
  abbrev pub EndsSeen : Ending → V → StepJournal E → K → C → A → List E → StepJournal E → Type 0
  EndsSeen Makes read j key change answer made after = IsDone read j key change answer made after
  EndsSeen Refuses read j key change answer made after = IsRefused read j key change answer made after
  EndsSeen Overflows read j key change answer made after = IsFull read j key change made after
  EndsSeen Fails read j key change answer made after = Stops true read j key change made after
  EndsSeen Wants read j key change answer made after = Stops false read j key change made after
  EndsSeen Damages read j key change answer made after = ⊥

  -- THE relation: what stood as it was read, where it was, a step, its answer, what was made, and the journal before and after
  abbrev pub Answers : Bool → V → StepJournal E → K → C → A → List E → StepJournal E → Type 0
  Answers false read j key change answer made after = EndsUnseen (r.ending answer) j made after
  Answers true read j key change answer made after = EndsSeen (r.ending answer) read j key change answer made after

  -- ---- one step at one lock. What is said of s, which the device held under each key, of t, which it holds under the step's own, and of `settles`,
  -- says something where nobody else changes the device: `alone`

  abbrev pub at_key : K → K → Bool
  at_key key other = r.is_key other key

  -- a step that may change something, from the history h to g
  pub record StepChanges (alone : Bool) (h : StepHistory K V E) (s : K → V) (key : K) (change : C) (answer : A) (g : StepHistory K V E) (t : V)
      : Type 0 where
    pub own : r.is_for key change ≡ true
    pub before : StepHistory K V E  -- the history at whose end the step was answered
    pub looked : Bool  -- whether it came so far that it was answered by what stands
    pub read : V  -- that by which it was
    pub made : List E  -- what was made of it: of a step that stopped only this tells it
    pub follows : GrowsOf h before
    pub settles : alone ≡ true → OnlySettles (r.reaches key) h before
    pub settled : looked ≡ true → NoneOf (r.touches read key change) (doubts_about r key before.journal.doubts)
    pub answered : Answers looked read before.journal key change answer made g.journal
    pub orderly : r.ending answer ≡ Damages → before.told ≡ false
    pub after : GrowsOf before g
    pub failed : r.ending answer ≡ Fails → HasRisen h.faults g.faults
    pub known : before.told ≡ true → looked ≡ true → CanStand r before key read
    pub kept : alone ≡ true → before.told ≡ true → (other : K) → r.reaches key other ≡ true → CanStand r before other (s other)
    pub held : alone ≡ true → before.told ≡ true → looked ≡ true → read ≡ s key
    pub leaves : alone ≡ true → before.told ≡ true → t ≡ fold r.applied (s key) made

  -- the entries that it added, those of settled doubts first
  abbrev pub added_by : {alone : Bool} {h : StepHistory K V E} {s : K → V} {key : K} {change : C} {answer : A} {g : StepHistory K V E} {t : V}
      → StepChanges alone h s key change answer g t → List E
  added_by step = step.follows.entries.0 ++ step.after.entries.0

-- ---- reads

-- how a read ended
pub data Look : Type 0 where
  Tells : Look  -- what stands tells the answer
  IsLost : Look  -- a call failed
  IsWanting : Look  -- memory was wanting
  IsDamaged : Look  -- a file that it had to read isn't in order

-- a step that reads these keys, and settles first those of their doubts that `touched` tells: `reading` tells, of what they stand for and the front,
-- which answers are right
pub record StepReads {K V E C A B : Type 0} (r : RulesOf K V E C A) (alone : Bool) (h : StepHistory K V E) (at : K → Bool) (touched : List E → Bool)
    (look : B → Look) (reading : (K → V) → ℕ → B → Type 0) (got : B) (g : StepHistory K V E) (t : K → V) : Type 0 where
  pub read : K → V
  pub follows : GrowsOf h g
  pub settles : alone ≡ true → OnlySettles r at h g
  pub settled : look got ≡ Tells → (key : K) → at key ≡ true → NoneOf touched (doubts_about r key g.journal.doubts)
  pub shown : look got ≡ Tells → reading read (length g.journal.entries) got
  pub orderly : look got ≡ IsDamaged → g.told ≡ false
  pub failed : look got ≡ IsLost → HasRisen h.faults g.faults
  pub known : g.told ≡ true → look got ≡ Tells → (key : K) → at key ≡ true → CanStand r g key (read key)
  pub kept : alone ≡ true → g.told ≡ true → (key : K) → at key ≡ true → CanStand r g key (t key)
  pub held : alone ≡ true → g.told ≡ true → look got ≡ Tells → (key : K) → at key ≡ true → read key ≡ t key
