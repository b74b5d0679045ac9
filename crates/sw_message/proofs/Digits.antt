-- Numbers in digits: what a Content-Length says.
use Rattle.std.proofs.Common.{◌≡◌, ℕ, ◌<◌, ◌≤◌, ◌⊎◌, inl, inr, true, false, None, Some, length, List, sym, arith}
use Rattle.std.proofs.lemmas.Bool.{and_from, and_left, and_right, cond-true, cond-false, le-leb, lt-leb}
use Rattle.std.proofs.lemmas.Int.Digits.{digits_value-lt}
use Rattle.std.proofs.Math.Nat.{pow-le-pow_right}
use Rattle.std.specs.Prelude.{Bool, ◌&&◌, nat_le}
use Rattle.std.specs.Char.{is_ascii_digit}
use Rattle.std.specs.List.{list_all}
use Rattle.std.specs.Str.Parse.{AllDigits, digits_value}
use Rattle.sw_message.specs.Framing.{length_of}

abbrev has_size : List ℕ → Bool
has_size value = nat_le 1 (length value) && nat_le (length value) 18

abbrev has_length : List ℕ → Bool
has_length value = has_size value && list_all is_ascii_digit value

no_length : (value : List ℕ) → has_length value ≡ false → None ≡ length_of value
unfolding length_of
no_length value fails = sym (cond-false _ _ _ fails)

pub no_length_by_size : (value : List ℕ) → (length value ≡ 0) ⊎ (18 < length value) → None ≡ length_of value
no_length_by_size value size = no_length value (and_left (has_size value) (list_all is_ascii_digit value) (elim size [
  | inl none ↦ and_left (nat_le 1 (length value)) (nat_le (length value) 18) (lt-leb 1 (length value) (omega arith))
  | inr many ↦ and_right (nat_le 1 (length value)) (nat_le (length value) 18) (lt-leb (length value) 18 many)
]))

pub no_length_by_digit : (value : List ℕ) → list_all is_ascii_digit value ≡ false → None ≡ length_of value
no_length_by_digit value fails = no_length value (and_right (has_size value) (list_all is_ascii_digit value) fails)

pub some_length : (value : List ℕ) → 1 ≤ length value → length value ≤ 18 → list_all is_ascii_digit value ≡ true →
    Some (digits_value 10 value) ≡ length_of value
unfolding length_of
some_length value some few digits =
    sym (cond-true _ _ _ (and_from _ _ (and_from _ _ (le-leb 1 (length value) some) (le-leb (length value) 18 few)) digits))

-- so few digits write a number that one more digit leaves in 64 bits
pub short_number : (digits : List ℕ) → AllDigits 10 digits → length digits ≤ 17 → digits_value 10 digits < 100000000000000000
short_number digits are few = omega (arith, digits_value-lt 10 digits are, pow-le-pow_right {n = 10} (omega arith) few)
