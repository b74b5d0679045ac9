-- The digits that a text begins with.
use Rattle.std.proofs.Common.{◌≡◌, ℕ, ◌+◌, ◌<◌, ◌≤◌, Bool, true, false, cond, List, [], ◌∷◌, ◌++◌, length, take, refl, sym, ◌∙◌, arith, zero, suc}
use Rattle.std.proofs.Common.{subst, get_or, ◌-◌}
use Rattle.std.specs.Prelude.{IsTrue, nat_eq, ◌↔◌}
use Rattle.std.proofs.Math.Seq.{take-length}
use Rattle.std.proofs.lemmas.List.{append-nil}
use Rattle.std.specs.Char.{digit_value, is_ascii_digit}
use Rattle.std.specs.List.{prefix_len}
use Rattle.std.specs.Str.Parse.{AllDigits}
use Rattle.std.proofs.lemmas.Bool.Decides.{nat_tests}

-- a byte is a decimal digit as `parse` of std and as ASCII say it
pub is_ascii_digit-digit : (c : ℕ) → digit_value c < 10 → is_ascii_digit c ≡ true
is_ascii_digit-digit c small = grind (arith, nat_tests)

pub digit-is_ascii_digit : (c : ℕ) → is_ascii_digit c ≡ true → digit_value c < 10
digit-is_ascii_digit c test = grind (arith, nat_tests)

one_more : (n : ℕ) → 1 + n ≡ suc n
one_more n = omega arith

-- the front of a text that passes the test has digits only
front_digits_at : (x : ℕ) (xs : List ℕ) (b : Bool) → is_ascii_digit x ≡ b → AllDigits 10 (take (prefix_len is_ascii_digit xs) xs) →
    AllDigits 10 (take (cond b (1 + prefix_len is_ascii_digit xs) 0) (x ∷ xs))
front_digits_at x xs true is rest = rw one_more (digit-is_ascii_digit x is, rest)
front_digits_at x xs false is rest = tt

pub front_digits : (xs : List ℕ) → AllDigits 10 (take (prefix_len is_ascii_digit xs) xs)
front_digits [] = tt
front_digits (x ∷ xs) = front_digits_at x xs (is_ascii_digit x) refl (front_digits xs)

-- the front stops after digits that no digit follows
pub prefix_len-digits : (xs ys : List ℕ) → AllDigits 10 xs → prefix_len is_ascii_digit ys ≡ 0 → prefix_len is_ascii_digit (xs ++ ys) ≡ length xs
prefix_len-digits [] ys digits stops = stops
prefix_len-digits (x ∷ xs) ys digits stops = rw (is_ascii_digit-digit x digits.0, prefix_len-digits xs ys digits.1 stops) (omega arith)

-- a text has digits only where all of it is such a front
pub AllDigits-from_prefix_len : (xs : List ℕ) → prefix_len is_ascii_digit xs ≡ length xs → AllDigits 10 xs
AllDigits-from_prefix_len xs whole =
    let P : ℕ → Type 0 = λ n. AllDigits 10 (take n xs) in
    rw take-length at (subst P whole (front_digits xs))

pub prefix_len-AllDigits : (xs : List ℕ) → AllDigits 10 xs → prefix_len is_ascii_digit xs ≡ length xs
prefix_len-AllDigits xs digits = rw append-nil at (prefix_len-digits xs [] digits refl)

-- a digit at its place
pub digit_at : (xs : List ℕ) (i : ℕ) → AllDigits 10 xs → i < length xs → digit_value (get_or xs i 0) < 10
digit_at [] i digits inside = absurd (omega arith)
digit_at (x ∷ xs) zero digits inside = digits.0
digit_at (x ∷ xs) (suc i) digits inside = digit_at xs i digits.1 (omega arith)

-- is its byte less that of `0`
pub digit_is : (c : ℕ) → digit_value c < 10 → (48 ≤ c) × (digit_value c ≡ c - 48)
digit_is c small = (grind (arith, nat_tests), grind (arith, nat_tests))

pub digits_test : (xs : List ℕ) (n : ℕ) → n ≡ prefix_len is_ascii_digit xs → IsTrue (nat_eq n (length xs)) ↔ AllDigits 10 xs
digits_test xs n count = (
  λ test. let same : n ≡ length xs = grind (arith, nat_tests) in AllDigits-from_prefix_len xs (sym count ∙ same),
  λ digits. let same : n ≡ length xs = count ∙ prefix_len-AllDigits xs digits in grind (arith, nat_tests),
)
