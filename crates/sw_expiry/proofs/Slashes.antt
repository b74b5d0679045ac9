-- Texts are cut at their first slash.
use Rattle.std.proofs.Common.{◌≡◌, ℕ, suc, ◌+◌, ◌-◌, ◌≤◌, ◌==◌, Bool, true, false, cond, List, [], ◌∷◌, ◌++◌, length, take, drop}
use Rattle.std.proofs.Common.{None, Some, refl, sym, ◌∙◌, ap, arith}
use Rattle.std.specs.List.{position, position_from}
use Rattle.std.proofs.lemmas.Bool.{eqb-false, eqb-true, or_parts}
use Rattle.std.proofs.lemmas.List.{take_rest}
use Rattle.std.proofs.lemmas.Iterator.Adapters.{position_from-zero}
use Rattle.sw_hashpath.specs.BadNames.{has_slash}

abbrev pub is_slash : ℕ → Bool
is_slash b = b == 47

none-from : (i : ℕ) (xs : List ℕ) → position_from is_slash i xs ≡ None → has_slash xs ≡ false
none-from i [] none = refl
none-from i (x ∷ xs) none = at (x == 47) refl none (none-from (i + 1) xs)
  where
    at : (b : Bool) → (x == 47) ≡ b → cond b (Some i) (position_from is_slash (i + 1) xs) ≡ None
        → (position_from is_slash (i + 1) xs ≡ None → has_slash xs ≡ false) → has_slash (x ∷ xs) ≡ false
    at true is none rest = cc
    at false is none rest = rw (is, rest none) refl

pub no-slash : (xs : List ℕ) → position is_slash xs ≡ None → has_slash xs ≡ false
no-slash xs none = none-from 0 xs (sym (position_from-zero is_slash xs) ∙ none)

abbrev IsCut : List ℕ → ℕ → Type 0
IsCut xs n = (has_slash (take n xs) ≡ false) × (xs ≡ take n xs ++ 47 ∷ drop (n + 1) xs)

some-from : (i k : ℕ) (xs : List ℕ) → position_from is_slash i xs ≡ Some k → (i ≤ k) × IsCut xs (k - i)
some-from i k [] some = cc
some-from i k (x ∷ xs) some = at (x == 47) refl some (some-from (i + 1) k xs)
  where
    at : (b : Bool) → (x == 47) ≡ b → cond b (Some i) (position_from is_slash (i + 1) xs) ≡ Some k
        → (position_from is_slash (i + 1) xs ≡ Some k → (i + 1 ≤ k) × IsCut xs (k - (i + 1))) → (i ≤ k) × IsCut (x ∷ xs) (k - i)
    at true is some rest =
        let here : i ≡ k = cc in
        let none : k - i ≡ 0 = omega arith in
        (omega arith, rw none (refl, ap (λ (y : ℕ). y ∷ xs) (eqb-true x 47 is)))
    at false is some rest =
        let later = rest some in
        let one : k - i ≡ suc (k - (i + 1)) = omega (arith, later.0) in
        let next : suc (k - (i + 1)) + 1 ≡ suc (k - (i + 1) + 1) = omega arith in
        (omega (arith, later.0), rw (one, next, is) (later.1.0, ap (λ (ys : List ℕ). x ∷ ys) later.1.1))

-- what is found is the place where the text is cut
pub cut-at : (xs : List ℕ) (k : ℕ) → position is_slash xs ≡ Some k →
    (has_slash (take k xs) ≡ false) × (xs ≡ take k xs ++ 47 ∷ take (length xs - (k + 1)) (drop (k + 1) xs))
cut-at xs k found =
    let at = some-from 0 k xs (sym (position_from-zero is_slash xs) ∙ found) in
    let whole : k - 0 ≡ k = omega arith in
    let parts = rw whole at at.1 in
    rw (take_rest xs (k + 1)) parts

starts : (x : ℕ) (a : List ℕ) → has_slash (x ∷ a) ≡ false → x ≡ 47 → ⊥
starts x a none is = eqb-false x 47 (or_parts (x == 47) (has_slash a) none).0 is

-- a text without a slash, a slash and what follows is one text
pub cut-once : (a b r s : List ℕ) → has_slash a ≡ false → has_slash b ≡ false → a ++ 47 ∷ r ≡ b ++ 47 ∷ s → (a ≡ b) × (r ≡ s)
cut-once [] [] r s none_a none_b same = (refl, cc)
cut-once [] (y ∷ b) r s none_a none_b same = absurd (starts y b none_b cc)
cut-once (x ∷ a) [] r s none_a none_b same = absurd (starts x a none_a cc)
cut-once (x ∷ a) (y ∷ b) r s none_a none_b same =
    let rest = cut-once a b r s (or_parts (x == 47) (has_slash a) none_a).1 (or_parts (y == 47) (has_slash b) none_b).1 cc in
    let first : x ≡ y = cc in
    (cc, rest.1)

-- and it has a slash
pub has-slash : (a r : List ℕ) → has_slash (a ++ 47 ∷ r) ≡ false → ⊥
has-slash [] r none = cc
has-slash (x ∷ a) r none = has-slash a r (or_parts (x == 47) (has_slash (a ++ 47 ∷ r)) none).1
