-- Lists by their places, as one changes or one is added.
use Rattle.std.proofs.Common.{◌≡◌, ◌≢◌, ℕ, zero, suc, ◌+◌, ◌<◌, ◌≤◌, List, [], ◌∷◌, ◌++◌, length, get_or, refl, sym, ◌∙◌, ap, arith}
use Rattle.std.proofs.Common.{None, Some, ◌⊎◌, inl, inr, slice_set, length-set}
use Rattle.std.specs.List.{slice_get}
use Rattle.std.proofs.lemmas.Bool.{cases_lt}
use Rattle.std.proofs.lemmas.List.{get_or-set_same, get_or-set_other}
use Rattle.std.proofs.lemmas.Option.{slice_get-get_or, slice_get_past}

-- ---- a list that changed in one place

pub at-set_same : {X : Type 0} (xs : List X) (i : ℕ) (x : X) → i < length xs → slice_get (slice_set xs i x) i ≡ Some x
at-set_same xs i x h =
    let within : i < length (slice_set xs i x) = rw length-set h in
    slice_get-get_or (slice_set xs i x) i x within ∙ ap Some (get_or-set_same xs i x x h)

pub at-set_other : {X : Type 0} (xs : List X) (i j : ℕ) (x : X) → j ≢ i → slice_get (slice_set xs i x) j ≡ slice_get xs j
at-set_other xs i j x away = elim (cases_lt j (length xs)) [
  | inl within ↦
      let same : j < length (slice_set xs i x) = rw length-set within in
      slice_get-get_or (slice_set xs i x) j x same ∙ (ap Some (get_or-set_other xs i j x x away) ∙ sym (slice_get-get_or xs j x within))
  | inr past ↦
      let same : length (slice_set xs i x) ≤ j = rw length-set past in
      slice_get_past (slice_set xs i x) j same ∙ sym (slice_get_past xs j past)
]

-- what stands at an index
pub found : {X : Type 0} (xs : List X) (l : ℕ) (x : X) → l < length xs → x ≡ get_or xs l x → slice_get xs l ≡ Some x
found xs l x within is = slice_get-get_or xs l x within ∙ ap Some (sym is)

pub some-same : {X : Type 0} (a b : X) → Some a ≡ Some b → a ≡ b
some-same a b same = cc

pub none-some : {X : Type 0} {P : Type 0} (x : X) → None ≡ Some x → P
none-some x same = cc

-- an index within a list has something
pub there-is : {X : Type 0} (xs : List X) (i : ℕ) → i < length xs → (x : X) × (slice_get xs i ≡ Some x)
there-is [] i within = absurd (omega arith)
there-is (x ∷ xs) zero within = (x, refl)
there-is (x ∷ xs) (suc i) within = there-is xs i (omega arith)

-- ---- a list that grew by one

pub at-push_cases : {X : Type 0} (xs : List X) (x : X) (i : ℕ) (y : X) → slice_get (xs ++ x ∷ []) i ≡ Some y
    → (slice_get xs i ≡ Some y) ⊎ ((i ≡ length xs) × (x ≡ y))
at-push_cases [] x zero y is = inr (refl, some-same x y is)
at-push_cases [] x (suc i) y is = none-some y is
at-push_cases (z ∷ xs) x zero y is = inl is
at-push_cases (z ∷ xs) x (suc i) y is = elim (at-push_cases xs x i y is) [ inl before ↦ inl before | inr last ↦ inr (ap suc last.0, last.1) ]

pub at-push_before : {X : Type 0} (xs : List X) (x : X) (i : ℕ) → i < length xs → slice_get (xs ++ x ∷ []) i ≡ slice_get xs i
at-push_before [] x i below = absurd (omega arith)
at-push_before (z ∷ xs) x zero below = refl
at-push_before (z ∷ xs) x (suc i) below = at-push_before xs x i (omega arith)

pub at-push_last : {X : Type 0} (xs : List X) (x : X) (i : ℕ) → i ≡ length xs → slice_get (xs ++ x ∷ []) i ≡ Some x
at-push_last [] x zero e = refl
at-push_last [] x (suc i) e = absurd (omega arith)
at-push_last (z ∷ xs) x zero e = absurd (omega arith)
at-push_last (z ∷ xs) x (suc i) e = at-push_last xs x i (omega arith)

pub length-push : {X : Type 0} (xs : List X) (x : X) → length (xs ++ x ∷ []) ≡ length xs + 1
length-push [] x = refl
length-push (z ∷ xs) x = let more = length-push xs x in omega arith
