-- Lists without a repeat.
use Rattle.std.proofs.Common.{◌≡◌, ℕ, zero, suc, ◌<◌, length, get_or, List, [], ◌∷◌, Bool, true, false, ◌||◌, Option, Some, None, bytes_eq, slice_get, Contains}
use Rattle.std.proofs.Common.{◌↔◌, refl, sym, ap, ◌∙◌, true≢false}
use Rattle.std.proofs.lemmas.Option.{get_or_from_slice_get, slice_get-get_or, slice_get_within}
use Rattle.std.proofs.lemmas.Slice.Eq.{bytes_eq-Decides}
use Rattle.std.specs.List.{list_any}
use Rattle.sw_ring.specs.Faults.{has_repeat}

or-left : (a b : Bool) → (a || b) ≡ false → a ≡ false
or-left true b e = e
or-left false b e = refl

or-right : (a b : Bool) → (a || b) ≡ false → b ≡ false
or-right true b e = absurd (true≢false e)
or-right false b e = e

or-right_true : (a b : Bool) → b ≡ true → (a || b) ≡ true
or-right_true true b e = refl
or-right_true false b e = e

-- an element of a list is found
found : (n : List ℕ) (xs : List (List ℕ)) (j : ℕ) → slice_get xs j ≡ Some n → list_any (λ y. bytes_eq y n) xs ≡ true
found n [] j at = cc
found n (x ∷ xs) zero at =
    let same : x ≡ n = cc in
    let passes : bytes_eq x n ≡ true = (bytes_eq-Decides x n).1 same in
    rw passes
found n (x ∷ xs) (suc j) at = or-right_true (bytes_eq x n) _ (found n xs j at)

-- the first element of a list stands nowhere else
only_first : (x : List ℕ) (xs : List (List ℕ)) (j : ℕ) → has_repeat bytes_eq (x ∷ xs) ≡ false → slice_get xs j ≡ Some x → ⊥
only_first x xs j distinct at = true≢false (sym (found x xs j at) ∙ or-left _ (has_repeat bytes_eq xs) distinct)

-- in a list of distinct byte strings each has one place
pub one_place : (n : List ℕ) (xs : List (List ℕ)) (i j : ℕ) → has_repeat bytes_eq xs ≡ false → slice_get xs i ≡ Some n → slice_get xs j ≡ Some n → i ≡ j
one_place n [] i j distinct at_i at_j = cc
one_place n (x ∷ xs) zero zero distinct at_i at_j = refl
one_place n (x ∷ xs) zero (suc j) distinct at_i at_j = absurd (only_first x xs j distinct (at_j ∙ sym at_i))
one_place n (x ∷ xs) (suc i) zero distinct at_i at_j = absurd (only_first x xs i distinct (at_i ∙ sym at_j))
one_place n (x ∷ xs) (suc i) (suc j) distinct at_i at_j = ap suc (one_place n xs i j (or-right (list_any (λ y. bytes_eq y x) xs) _ distinct) at_i at_j)

-- where n has the place p, it has no other
pub at_one_place : (n : List ℕ) (xs : List (List ℕ)) (p : ℕ) → has_repeat bytes_eq xs ≡ false → slice_get xs p ≡ Some n → (i : ℕ) →
    (Some p ≡ Some i) ↔ (slice_get xs i ≡ Some n)
at_one_place n xs p distinct at i = (λ e. let same : i ≡ p = cc in rw same at, λ other. ap Some (one_place n xs p i distinct at other))

-- where n isn't in the list, it has no place
pub at_no_place : (n : List ℕ) (xs : List (List ℕ)) (r : Option ℕ) → r ≡ None → ¬ (Contains xs n) → (i : ℕ) → (r ≡ Some i) ↔ (slice_get xs i ≡ Some n)
at_no_place n xs r none unknown i = (λ e. cc, λ at. absurd (unknown (i, slice_get_within xs i n at, get_or_from_slice_get xs i n n at)))

pub at_index : (n : List ℕ) (xs : List (List ℕ)) (p : ℕ) → p < length xs → get_or xs p n ≡ n → slice_get xs p ≡ Some n
at_index n xs p within here = slice_get-get_or xs p n within ∙ ap Some here
