-- Devices in order, with one more.
use Rattle.std.proofs.Common.{◌≡◌, ℕ, zero, suc, ◌+◌, ◌<◌, Bool, true, false, cond, ◌||◌, ◌==◌, List, [], ◌∷◌, length, get_or, refl, sym, ap, ◌∙◌, arith}
use Rattle.std.proofs.Common.{if◌then◌else◌}
use Rattle.std.specs.List.{AllAdjacentBelow, IsAllAdjacentAnswer, prefix_len}
use Rattle.std.specs.Prelude.{insert, nat_lt}
use Rattle.std.proofs.lemmas.Bool.{and_from, and_left, and_parts, and_right, both_ways, eqb-true, or_from, or_parts}
use Rattle.std.proofs.lemmas.Bool.Decides.{nat_tests}
use Rattle.sw_pending.specs.Rules.{are_after, are_in_order, is_done, with_device}

-- ---- which devices are done

unequal : (d last e : ℕ) → nat_lt last d ≡ false → nat_lt last e ≡ true → (d == e) ≡ false
unequal d last e upto after = grind (arith, nat_tests)

below : (d last e : ℕ) → nat_lt last d ≡ false → nat_lt last e ≡ true → nat_lt e d ≡ false
below d last e upto after = grind (arith, nat_tests)

-- devices that come after one don't have what is up to that
apart_after : (d last : ℕ) (ds : List ℕ) → nat_lt last d ≡ false → are_after last ds ≡ true → is_done d ds ≡ false
apart_after d last [] upto are = refl
apart_after d last (e ∷ ds) upto are =
    let parts = and_parts (nat_lt last e) (are_after e ds) are in
    or_from (d == e) (is_done d ds) (unequal d last e upto parts.0) (apart_after d e ds (below d last e upto parts.0) parts.1)

in_order-after : (last : ℕ) (ds : List ℕ) → are_after last ds ≡ true → are_in_order ds ≡ true
in_order-after last [] are = refl
in_order-after last (e ∷ ds) are = (and_parts (nat_lt last e) (are_after e ds) are).1

not_above : (d e : ℕ) → nat_lt d e ≡ true → nat_lt e d ≡ false
not_above d e before = grind (arith, nat_tests)

not_same : (d e : ℕ) → nat_lt d e ≡ true → (d == e) ≡ false
not_same d e before = grind (arith, nat_tests)

-- one that is done is there
pub with_done : (d : ℕ) (ds : List ℕ) → are_in_order ds ≡ true → is_done d ds ≡ true → with_device d ds ≡ ds
with_done d [] are done = absurd cc
with_done d (e ∷ ds) are done = by (λ later. with_done d ds (in_order-after e ds are) later) (nat_lt d e) refl (d == e) refl
  where
    by : (is_done d ds ≡ true → with_device d ds ≡ ds) → (front : Bool) → nat_lt d e ≡ front → (same : Bool) → (d == e) ≡ same
        → (if front then d ∷ e ∷ ds else if same then e ∷ ds else e ∷ with_device d ds) ≡ e ∷ ds
    by rest true first same is =
        absurd (both_ways (is_done d (e ∷ ds)) (or_from (d == e) (is_done d ds) (not_same d e first) (apart_after d e ds (not_above d e first) are)) done)
    by rest false first true is = refl
    by rest false first false is = ap (λ (l : List ℕ). e ∷ l) (rest (rw is at done))

-- it is done, and whatever was
once : (x y z : Bool) → y ≡ x → (y || z) ≡ (x || (y || z))
once true true z is = refl
once false false z is = refl
once true false z is = absurd cc
once false true z is = absurd cc

turned : (x y z : Bool) → (y || (x || z)) ≡ (x || (y || z))
turned true true z = refl
turned true false z = refl
turned false true z = refl
turned false false z = refl

pub done-with_device : (other d : ℕ) (ds : List ℕ) → is_done other (with_device d ds) ≡ ((other == d) || is_done other ds)
done-with_device other d [] = refl
done-with_device other d (e ∷ ds) = by (done-with_device other d ds) (nat_lt d e) (d == e) refl
  where
    by : is_done other (with_device d ds) ≡ ((other == d) || is_done other ds) → (front same : Bool) → (d == e) ≡ same
        → is_done other (if front then d ∷ e ∷ ds else if same then e ∷ ds else e ∷ with_device d ds) ≡ ((other == d) || is_done other (e ∷ ds))
    by rest true same is = refl
    by rest false true is = once (other == d) (other == e) (is_done other ds) (ap (λ (n : ℕ). other == n) (sym (eqb-true d e is)))
    by rest false false is = ap (λ (b : Bool). (other == e) || b) rest ∙ turned (other == d) (other == e) (is_done other ds)

-- one that isn't there is put behind those that are below it
next : (n : ℕ) → 1 + n ≡ suc n
next n = omega arith

pub inserted : (d : ℕ) (ds : List ℕ) → is_done d ds ≡ false → insert ds (prefix_len (λ e. nat_lt e d) ds) d ≡ with_device d ds
inserted d [] none = refl
inserted d (e ∷ ds) none = by (λ rest. inserted d ds rest) (nat_lt e d) refl (or_parts (d == e) (is_done d ds) none)
  where
    by : (is_done d ds ≡ false → insert ds (prefix_len (λ x. nat_lt x d) ds) d ≡ with_device d ds) → (before : Bool) → nat_lt e d ≡ before
        → ((d == e) ≡ false) × (is_done d ds ≡ false)
        → insert (e ∷ ds) (cond before (1 + prefix_len (λ x. nat_lt x d) ds) 0) d ≡ with_device d (e ∷ ds)
    by rest true is parts = rw (next (prefix_len (λ x. nat_lt x d) ds), not_above e d is, parts.0) (ap (λ (l : List ℕ). e ∷ l) (rest parts.1))
    by rest false is parts = rw (first is parts.0) refl
      where
        first : nat_lt e d ≡ false → (d == e) ≡ false → nat_lt d e ≡ true
        first upto apart = grind (arith, nat_tests)

-- ---- the tests of the code

-- each place and the next
at_next : (last : ℕ) (ds : List ℕ) (k x : ℕ) → get_or (last ∷ ds) (suc k + 1) x ≡ get_or ds (k + 1) x
at_next last ds k x = let e : suc k + 1 ≡ suc (k + 1) = omega arith in rw e refl

shifted : (last d : ℕ) (ds : List ℕ) → AllAdjacentBelow (λ x y. nat_lt x y ≡ true) (last ∷ d ∷ ds) (length (last ∷ d ∷ ds))
    → AllAdjacentBelow (λ x y. nat_lt x y ≡ true) (d ∷ ds) (length (d ∷ ds))
shifted last d ds all k x within = rw (at_next last (d ∷ ds) k x) at (all (suc k) x (omega arith))

after-from_all : (last : ℕ) (ds : List ℕ) → AllAdjacentBelow (λ x y. nat_lt x y ≡ true) (last ∷ ds) (length (last ∷ ds)) → are_after last ds ≡ true
after-from_all last [] all = refl
after-from_all last (d ∷ ds) all = and_from (nat_lt last d) (are_after d ds) (all 0 0 (omega arith)) (after-from_all d ds (shifted last d ds all))

after-from_break : (last : ℕ) (ds : List ℕ) (k : ℕ) → k + 1 < length (last ∷ ds) → nat_lt (get_or (last ∷ ds) k 0) (get_or (last ∷ ds) (k + 1) 0) ≡ false
    → are_after last ds ≡ false
after-from_break last [] k within break = absurd (omega arith)
after-from_break last (d ∷ ds) zero within break = and_left (nat_lt last d) (are_after d ds) break
after-from_break last (d ∷ ds) (suc k) within break =
    and_right (nat_lt last d) (are_after d ds) (after-from_break d ds k (omega arith) (rw (at_next last (d ∷ ds) k 0) at break))

pub in_order-answer : (ds : List ℕ) (r : Bool) → IsAllAdjacentAnswer (λ x y b. b ≡ nat_lt x y) ds r → r ≡ are_in_order ds
in_order-answer [] true answer = refl
in_order-answer [] false answer = absurd (let within = answer.1 in omega arith)
in_order-answer (d ∷ ds) true answer = sym (after-from_all d ds (λ k x within. sym (answer k x within)))
in_order-answer (d ∷ ds) false answer = sym (after-from_break d ds answer.0 answer.1 (sym (answer.2 0)))
