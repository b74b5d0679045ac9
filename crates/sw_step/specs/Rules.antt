-- The rules by which the steps at a lock go, whatever it keeps, and what a key stands for by them. (This project's own.)
use Rattle.std.specs.Prelude.{◌≡◌, ⊤, ℕ, Bool, true, false, List, [], ◌∷◌, ◌++◌, ◌||◌, Option, None, ◌⊎◌}
use Rattle.std.specs.List.{filter, fold}
use Rattle.sw_step.specs.Journals.{StepHistory, StepJournal, flat}

-- how a step ended, as its answer tells
pub data Ending : Type 0 where
  Makes : Ending  -- all was made
  Refuses : Ending  -- what stands refuses it
  Overflows : Ending  -- there is no room for its entries
  Fails : Ending  -- a call failed
  Wants : Ending  -- memory was wanting
  Damages : Ending  -- a file that it had to read isn't in order

abbrev pub has_made : Ending → Bool
has_made Makes = true
has_made ending = false

abbrev pub has_failed : Ending → Bool
has_failed Fails = true
has_failed ending = false

abbrev pub has_wanted : Ending → Bool
has_wanted Wants = true
has_wanted ending = false

-- K keys, V what a key stands for, E entries, C steps that change something, A their answers
pub record RulesOf (K V E C A : Type 0) : Type 0 where
  pub is_key : K → K → Bool
  pub key_of : E → K
  pub applied : V → E → V  -- what an entry leaves
  pub refusal : V → K → C → Option A
  pub entries_for : V → K → C → List E  -- those of a step that is made
  pub changes_for : V → K → C → List (List E)  -- its single changes in their order, each by what it enters where the step stops behind it
  pub has_room : StepJournal E → V → List E → Bool
  pub made_answer : V → K → C → ℕ → A  -- of a step that is made: the number is the front, that of entries after it
  pub ending : A → Ending
  pub is_for : K → C → Bool  -- whether the step is one at this key
  pub touches : V → K → C → List E → Bool  -- of the doubts of its key those that the step settles first
  pub reaches : K → K → Bool  -- whether a step at the first key may settle doubts of the second first. One reaches its own key

-- none of these is one that passes the test
abbrev pub NoneOf : {E : Type 0} → (List E → Bool) → List (List E) → Type 0
NoneOf test [] = ⊤
NoneOf test (d ∷ doubts) = (test d ≡ false) × NoneOf test doubts

module _ {K V E C A : Type 0} (r : RulesOf K V E C A) where
  -- the entries of a key, in order
  abbrev pub about : K → List E → List E
  about key entries = filter (λ e. r.is_key (r.key_of e) key) entries

  -- all of them are of the key
  abbrev pub AllAt : K → List E → Type 0
  AllAt key [] = ⊤
  AllAt key (e ∷ es) = (r.key_of e ≡ key) × AllAt key es

  -- whether a change has an entry of the key
  abbrev pub is_about : K → List E → Bool
  is_about key [] = false
  is_about key (e ∷ es) = r.is_key (r.key_of e) key || is_about key es

  -- a change is one of the key
  pub record IsOf (key : K) (change : List E) : Type 0 where
    pub is : is_about key change ≡ true
    pub all : AllAt key change

  abbrev pub AreOf : K → List (List E) → Type 0
  AreOf key [] = ⊤
  AreOf key (change ∷ changes) = IsOf key change × AreOf key changes

  abbrev pub doubts_about : K → List (List E) → List (List E)
  doubts_about key doubts = filter (is_about key) doubts

  -- what a key stands for by the entries. Doubts that are not settled don't count
  abbrev pub stands : StepHistory K V E → K → V
  stands h key = fold r.applied (h.opening key) (about key h.journal.entries)

  -- these are the entries of some of the doubted changes, in order
  abbrev pub AreChosen : List (List E) → List E → Type 0
  AreChosen [] es = es ≡ []
  AreChosen (d ∷ doubts) es = (rest : List E) × AreChosen doubts rest × ((es ≡ rest) ⊎ (es ≡ d ++ rest))

  -- a key may stand for this: by the entries, and by those of its doubts that were made
  abbrev pub CanStand : StepHistory K V E → K → V → Type 0
  CanStand h key v = (made : List E) × AreChosen (doubts_about key h.journal.doubts) made × (v ≡ fold r.applied (stands h key) made)

  -- what rules have to keep
  pub record AreRules : Type 0 where
    pub keys : (a b : K) → r.is_key a b ≡ true → a ≡ b
    pub itself : (a : K) → r.is_key a a ≡ true
    pub reached : (a : K) → r.reaches a a ≡ true
    pub own : (v : V) (key : K) (change : C) → r.is_for key change ≡ true → AllAt key (r.entries_for v key change)
    pub own_changes : (v : V) (key : K) (change : C) → r.is_for key change ≡ true → AreOf key (r.changes_for v key change)
    -- a doubt that a step which nothing refuses needn't settle first may as well have been made behind it: behind all of it, or behind its first changes
    pub apart : (v w : V) (key : K) (change : C) (d : List E) → r.refusal v key change ≡ None → r.touches v key change d ≡ false
        → fold r.applied (fold r.applied w d) (r.entries_for v key change) ≡ fold r.applied (fold r.applied w (r.entries_for v key change)) d
    pub apart_first : (v w : V) (key : K) (change : C) (d : List E) (first behind : List (List E)) → r.refusal v key change ≡ None
        → r.touches v key change d ≡ false → r.changes_for v key change ≡ first ++ behind
        → fold r.applied (fold r.applied w d) (flat first) ≡ fold r.applied (fold r.applied w (flat first)) d
