-- Rows that are put into another list one after the other.
use Rattle.std.proofs.Common.{◌≡◌, ℕ, ◌<◌, Bool, true, false, cond, List, [], ◌∷◌, ◌++◌, None, Some, All, refl, arith}
use Rattle.std.specs.List.{find}
use Rattle.std.proofs.lemmas.List.Elements.{All-cons, All-head, All-tail}
use Rattle.sw_rows.specs.Rows.{is_named, IsNamedOnce, IsRising}
use Rattle.sw_rows.specs.declared.numbered.Numbered.{Numbered}
use Rattle.sw_rows.proofs.Named.{name-sym}

pub rising-behind : (low : ℕ) (done left : List Numbered) (n : Numbered) → IsRising low (done ++ n ∷ left) → low < n.rowid
rising-behind low [] left n rising = rising.0
rising-behind low (m ∷ ms) left n rising = let up : m.rowid < n.rowid = rising-behind m.rowid ms left n rising.1 in omega (arith, rising.0)

pub rising-above : (low : ℕ) (done left : List Numbered) (n : Numbered) → IsRising low (done ++ n ∷ left) → All (λ m. m.rowid < n.rowid) done
rising-above low [] left n rising = λ k d below. absurd (omega arith)
rising-above low (m ∷ ms) left n rising =
    All-cons (λ x. x.rowid < n.rowid) m ms (rising-behind m.rowid ms left n rising.1) (rising-above m.rowid ms left n rising.1)

-- a row that comes later has another name than the one that isn't found
apart_from : (name : List ℕ) (done left : List Numbered) (n : Numbered) → find (is_named name) (done ++ n ∷ left) ≡ None → is_named name n ≡ false
apart_from name [] left n none = at (is_named name n) none
  where
    at : (b : Bool) → cond b (Some n) (find (is_named name) left) ≡ None → b ≡ false
    at true is = cc
    at false is = refl
apart_from name (x ∷ xs) left n none = at (is_named name x) none (λ h. apart_from name xs left n h)
  where
    at : (b : Bool) → cond b (Some x) (find (is_named name) (xs ++ n ∷ left)) ≡ None → (find (is_named name) (xs ++ n ∷ left) ≡ None →
        is_named name n ≡ false) →
        is_named name n ≡ false
    at true is rest = cc
    at false is rest = rest is

-- where no two have one name, none that comes before has it
pub once-before : (done left : List Numbered) (n : Numbered) → IsNamedOnce (done ++ n ∷ left) → find (is_named n.row.name) done ≡ None
once-before [] left n once = refl
once-before (x ∷ xs) left n once =
    let apart : is_named n.row.name x ≡ false = name-sym n.row.name x.row.name (apart_from x.row.name xs left n once.0) in
    rw apart (once-before xs left n once.1)

-- what holds of all holds of one between
pub All-between : (P : Numbered → Type 0) (done left : List Numbered) (n : Numbered) → All P (done ++ n ∷ left) → P n
All-between P [] left n all = All-head P n left all
All-between P (x ∷ xs) left n all = All-between P xs left n (All-tail P x (xs ++ n ∷ left) all)
