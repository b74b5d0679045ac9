-- Sums over lists, and lists read by `get_elem?`.
use Rattle.std.proofs.Common.{◌≡◌, ◌≢◌, ℕ, zero, suc, ◌+◌, ◌*◌, ◌/◌, ◌%◌, ◌<◌, ◌≤◌, eqb, Bool, true, false, List, [], ◌∷◌, ◌++◌, length}
use Rattle.std.proofs.Common.{replicate, set, sym, refl, ap, ◌∙◌, arith, div-add-mod'}
use mathlib.Core.Option.{some, some-injective, some-ne-none}
use lib.ListN.{get_elem?}
use borrow.Author.Tests.{eq-eqb, eqb-true, eqb-false}
use Rattle.sw_turn.specs.Known.{total, hit, times, below, first_of}

module _ {A : Type 0} where
  pub total_set : (f : A → ℕ) (l : List A) (i : ℕ) (v w : A) → get_elem? l i ≡ some v → total f (set l i w) + f v ≡ total f l + f w
  total_set f [] i v w e = absurd (some-ne-none v (sym e))
  total_set f (x ∷ xs) zero v w e = let s : f x ≡ f v = ap f (some-injective x v e) in omega (arith, s)
  total_set f (x ∷ xs) (suc i) v w e = omega (arith, total_set f xs i v w e)

  pub total_append : (f : A → ℕ) (l m : List A) → total f (l ++ m) ≡ total f l + total f m
  total_append f [] m = omega arith
  total_append f (x ∷ xs) m = omega (arith, total_append f xs m)

  pub total_at : (f : A → ℕ) (l : List A) (i : ℕ) (v : A) → get_elem? l i ≡ some v → f v ≤ total f l
  total_at f [] i v e = absurd (some-ne-none v (sym e))
  total_at f (x ∷ xs) zero v e = let s : f x ≡ f v = ap f (some-injective x v e) in omega (arith, s)
  total_at f (x ∷ xs) (suc i) v e = omega (arith, total_at f xs i v e)

  pub total_two : (f : A → ℕ) (l : List A) (i j : ℕ) (v w : A) → get_elem? l i ≡ some v → get_elem? l j ≡ some w → i ≢ j → f v + f w ≤ total f l
  total_two f [] i j v w e d ne = absurd (some-ne-none v (sym e))
  total_two f (x ∷ xs) zero zero v w e d ne = absurd (ne refl)
  total_two f (x ∷ xs) zero (suc j) v w e d ne = let s : f x ≡ f v = ap f (some-injective x v e) in omega (arith, s, total_at f xs j w d)
  total_two f (x ∷ xs) (suc i) zero v w e d ne = let s : f x ≡ f w = ap f (some-injective x w d) in omega (arith, s, total_at f xs i v e)
  total_two f (x ∷ xs) (suc i) (suc j) v w e d ne = omega (arith, total_two f xs i j v w e d (λ h. ne (ap suc h)))

  pub total_le : (f g : A → ℕ) (l : List A) → ((i : ℕ) (v : A) → get_elem? l i ≡ some v → f v ≤ g v) → total f l ≤ total g l
  total_le f g [] h = omega arith
  total_le f g (x ∷ xs) h = omega (arith, h 0 x refl, total_le f g xs (λ i v e. h (suc i) v e))

  pub ones_are : (l : List A) → total (λ x. 1) l ≡ length l
  ones_are [] = refl
  ones_are (x ∷ xs) = omega (arith, ones_are xs)

pub times_here : (x : ℕ) → hit (eqb x x) ≡ 1
times_here x = ap hit (eq-eqb x x refl)

pub times_first : (xs : List ℕ) → xs ≢ [] → 0 < times (first_of xs) xs
times_first [] ne = absurd (ne refl)
times_first (x ∷ xs) ne = omega (arith, times_here x)

-- the test of two numbers, with what it says
pub by_test : (P : ℕ → Type 0) (y x : ℕ) → (y ≡ x → P 1) → (y ≢ x → P 0) → P (hit (eqb y x))
by_test P y x same apart = go (eqb y x) refl
  where
    go : (b : Bool) → eqb y x ≡ b → P (hit b)
    go true e = same (eqb-true y x e)
    go false e = apart (λ q. eqb-false y x e q)

pub times_replicate : (n x y : ℕ) → 0 < times y (replicate n x) → y ≡ x
times_replicate zero x y pos = absurd (omega arith)
times_replicate (suc n) x y pos =
    let again = times_replicate n x y in
    by_test (λ h. 0 < h + times y (replicate n x) → y ≡ x) x y (λ e p. sym e) (λ ne p. again (omega arith)) pos

times_past : (m x : ℕ) → m ≤ x → times x (below m) ≡ 0
times_past zero x le = refl
times_past (suc m) x le =
    let again = times_past m x (omega arith) in
    by_test (λ h. h + times x (below m) ≡ 0) m x (λ e. absurd (omega arith)) (λ ne. omega arith)

-- each number below n stands once among these, and no other
pub times_below : (n x : ℕ) → times x (below n) ≤ 1
times_below zero x = omega arith
times_below (suc n) x =
    let again = times_below n x in
    by_test (λ h. h + times x (below n) ≤ 1) n x (λ e. omega (arith, times_past n x (omega arith))) (λ ne. omega arith)

pub below_in : (n x : ℕ) → 0 < times x (below n) → x < n
below_in zero x pos = absurd (omega arith)
below_in (suc n) x pos =
    let again = below_in n x in
    by_test (λ h. 0 < h + times x (below n) → x < suc n) n x (λ e p. omega arith) (λ ne p. omega (arith, again (omega arith))) pos

pub length-below : (n : ℕ) → length (below n) ≡ n
length-below zero = refl
length-below (suc n) = omega (arith, length-below n)

-- one more than a number and than its remainder have one remainder
pub next_turn : (a n : ℕ) → 1 < n → (a % n + 1) % n ≡ (a + 1) % n
next_turn a n big =
    let p : ℕ = a / n * n in
    let r : ℕ = a % n in
    let h : p + r ≡ a = div-add-mod' a n in
    let g : r + 1 + p ≡ a + 1 = omega arith in
    sym (shift (a / n) (a % n + 1)) ∙ ap (λ (z : ℕ). z % n) g
  where
    shift : (k m : ℕ) → (m + k * n) % n ≡ m % n
    shift k m = native.Mathlib.Nat.add-mul-mod_self_right m k n
