-- What is promised of every step, whatever the lock keeps. (This project's own.)
use Rattle.std.specs.Prelude.{◌≡◌, ◌≢◌, ℕ, Bool, true, false, List, ◌++◌}
use Rattle.std.specs.Prelude.{[], ◌∷◌, ⊤, ◌⊎◌}
use Rattle.sw_step.specs.Journals.{StepHistory, StepJournal, flat}
use Rattle.sw_step.specs.Rules.{AreRules, CanStand, RulesOf, doubts_about, stands}
use Rattle.sw_step.specs.Steps.{StepChanges, Settles}

-- each of these is one of those
abbrev pub IsAmong : {X : Type 0} → List X → X → Type 0
IsAmong [] x = ⊥
IsAmong (y ∷ ys) x = (x ≡ y) ⊎ IsAmong ys x

abbrev pub AllAmong : {X : Type 0} → List X → List X → Type 0
AllAmong ys [] = ⊤
AllAmong ys (x ∷ xs) = IsAmong ys x × AllAmong ys xs

module _ {K V E C A : Type 0} (r : RulesOf K V E C A) where
  -- after a step of a lock that nobody else changes, its key stands for what the entries tell, with those of its doubts that were made: also
  -- where the step failed
  abbrev pub KeepsItsKey : Type 0
  KeepsItsKey = (h : StepHistory K V E) (s : K → V) (key : K) (change : C) (answer : A) (g : StepHistory K V E) (t : V)
      → AreRules r → StepChanges r true h s key change answer g t → g.told ≡ true → CanStand r g key t

  -- what a key out of its reach may stand for it may stand for after it
  abbrev pub KeepsOthers : Type 0
  KeepsOthers = (h : StepHistory K V E) (s : K → V) (key : K) (change : C) (answer : A) (g : StepHistory K V E) (t : V) (other : K) (v : V)
      → AreRules r → StepChanges r true h s key change answer g t → r.reaches key other ≡ false → CanStand r h other v → CanStand r g other v

  -- and every other key may stand for what it held: where doubts of it were settled, they were settled as they were made
  abbrev pub KeepsHeld : Type 0
  KeepsHeld = (h : StepHistory K V E) (s : K → V) (key : K) (change : C) (answer : A) (g : StepHistory K V E) (t : V) (other : K)
      → AreRules r → StepChanges r true h s key change answer g t → other ≢ key → g.told ≡ true → CanStand r h other (s other)
      → CanStand r g other (s other)

  -- settling enters doubts alone, each whole, and each was a doubt of these keys; no other entry comes
  abbrev pub EntersDoubtsAlone : Type 0
  EntersDoubtsAlone = (at : K → Bool) (n : ℕ) (j after : StepJournal E) → Settles r at n j after
      → (entered : List (List E)) × (after.entries ≡ j.entries ++ flat entered) × AllAmong j.doubts entered

  -- so where nothing is in doubt nothing is settled
  abbrev pub NothingToSettle : Type 0
  NothingToSettle = (at : K → Bool) (n : ℕ) (j after : StepJournal E) → Settles r at n j after → j.doubts ≡ [] → after ≡ j

  -- and where no doubt of a key is left, it stands for what its entries tell
  abbrev pub NoDoubtsTell : Type 0
  NoDoubtsTell = (h : StepHistory K V E) (key : K) (v : V) → CanStand r h key v → doubts_about r key h.journal.doubts ≡ [] → v ≡ stands r h key
