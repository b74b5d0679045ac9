-- Ten digits are ordered as their numbers.
use Rattle.std.proofs.Common.{◌≡◌, ℕ, ◌+◌, ◌*◌, ◌^◌, ◌<◌, ◌≤◌, List, [], ◌∷◌, ◌++◌, length, refl, sym, ◌∙◌, arith, subst, inl, inr}
use Rattle.std.proofs.Math.Nat.{mul-le-mul_right, pow-succ'}
use Rattle.std.specs.Char.{digit_value}
use Rattle.std.specs.Cmp.Lexicographic.{slice_cmp}
use Rattle.std.specs.Ordering.{nat_cmp}
use Rattle.std.specs.Str.Parse.{AllDigits, digits_value_after}
use Rattle.std.specs.declared.cmp.Ordering.TheVariants.{Less, Equal}
use Rattle.std.proofs.lemmas.Bool.{cases_order, lt-ltb, eq-eqb, le-ltb}
use Rattle.sw_timestamp.proofs.DigitsAtFront.{digit_is}
use Rattle.sw_expiry.specs.TenDigits.{ten_digits}
use Rattle.sw_expiry.proofs.TenDigits.{AllDigits-ten_digits, length-ten_digits, value-ten_digits}

most : (n : ℕ) (ds : List ℕ) → AllDigits 10 ds → digits_value_after 10 n ds < (n + 1) * 10 ^ length ds
most n [] all = omega arith
most n (d ∷ ds) all =
    let small : n * 10 + digit_value d + 1 ≤ (n + 1) * 10 = omega (arith, all.0) in
    let scaled : (n * 10 + digit_value d + 1) * 10 ^ length ds ≤ (n + 1) * 10 * 10 ^ length ds = mul-le-mul_right (10 ^ length ds) small in
    rw (pow-succ' 10 (length ds)) (omega (arith, most (n * 10 + digit_value d) ds all.1))

least : (n : ℕ) (ds : List ℕ) → n * 10 ^ length ds ≤ digits_value_after 10 n ds
least n [] = omega arith
least n (d ∷ ds) = rw (pow-succ' 10 (length ds)) (omega (arith, least (n * 10 + digit_value d) ds))

cmp-same : (x y : ℕ) → x ≡ y → nat_cmp x y ≡ Equal
cmp-same x y is = rw (le-ltb x y (omega arith), eq-eqb x y is) refl

cmp-up : (x y : ℕ) → x < y → nat_cmp x y ≡ Less
cmp-up x y up = rw (lt-ltb x y up) refl

-- a greater first digit makes a greater number
not-down : (n x y : ℕ) (xs ys : List ℕ) → length xs ≡ length ys → digit_value x < 10 → digit_value y < 10 → AllDigits 10 ys → y < x →
    digits_value_after 10 (n * 10 + digit_value x) xs < digits_value_after 10 (n * 10 + digit_value y) ys → ⊥
not-down n x y xs ys same digit_x digit_y all_y down below =
    let first : n * 10 + digit_value y + 1 ≤ n * 10 + digit_value x = omega (arith, (digit_is x digit_x).1, (digit_is y digit_y).1, (digit_is y digit_y).0) in
    let scaled : (n * 10 + digit_value y + 1) * 10 ^ length ys ≤ (n * 10 + digit_value x) * 10 ^ length ys = mul-le-mul_right (10 ^ length ys) first in
    let low : (n * 10 + digit_value x) * 10 ^ length ys ≤ digits_value_after 10 (n * 10 + digit_value x) xs =
    subst (λ (k : ℕ). (n * 10 + digit_value x) * 10 ^ k ≤ digits_value_after 10 (n * 10 + digit_value x) xs) same (least (n * 10 + digit_value x) xs) in
    omega (arith, most (n * 10 + digit_value y) ys all_y)

-- digits that write less come first, whatever follows
less : (n : ℕ) (xs ys r s : List ℕ) → length xs ≡ length ys → AllDigits 10 xs → AllDigits 10 ys
    → digits_value_after 10 n xs < digits_value_after 10 n ys → slice_cmp nat_cmp (xs ++ r) (ys ++ s) ≡ Less
less n [] [] r s same all_x all_y below = absurd (omega arith)
less n [] (y ∷ ys) r s same all_x all_y below = absurd (omega arith)
less n (x ∷ xs) [] r s same all_x all_y below = absurd (omega arith)
less n (x ∷ xs) (y ∷ ys) r s same all_x all_y below =
    let rest : length xs ≡ length ys = omega arith in
    elim (cases_order x y) [
      | inl is ↦ rw (cmp-same x y is) (less (n * 10 + digit_value x) xs ys r s rest all_x.1 all_y.1
          (subst (λ (z : ℕ). digits_value_after 10 (n * 10 + digit_value x) xs < digits_value_after 10 (n * 10 + digit_value z) ys) (sym is) below))
      | inr (inl up) ↦ rw (cmp-up x y up) refl
      | inr (inr down) ↦ absurd (not-down n x y xs ys rest all_x.0 all_y.0 all_y.1 down below)
    ]

pub ten_digits-less : (m n : ℕ) (r s : List ℕ) → m < n → n ≤ 9999999999 → slice_cmp nat_cmp (ten_digits m ++ r) (ten_digits n ++ s) ≡ Less
ten_digits-less m n r s below small =
    less 0 (ten_digits m) (ten_digits n) r s (length-ten_digits m (omega arith) ∙ sym (length-ten_digits n small)) (AllDigits-ten_digits m (omega arith))
    (AllDigits-ten_digits n small) (omega (arith, value-ten_digits m (omega arith), value-ten_digits n small))
