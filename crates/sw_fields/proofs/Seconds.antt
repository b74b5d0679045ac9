-- Seconds as times.
use Rattle.std.proofs.Common.{◌≡◌, ℕ, ◌*◌, ◌<◌, ◌≤◌, Bool, true, false, List, [], ◌∷◌, length, refl, sym, arith}
use Rattle.std.specs.Prelude.{◌&&◌, nat_le}
use Rattle.std.proofs.lemmas.Bool.Decides.{nat_tests}
use Rattle.std.proofs.lemmas.List.{append-nil}
use Rattle.std.specs.Char.{digit_value, is_ascii_digit}
use Rattle.std.specs.List.{list_all}
use Rattle.std.specs.Str.Parse.{AllDigits, digits_value}
use Rattle.sw_timestamp.specs.TimeText.{IsTimeText, units_of_second}
use Rattle.sw_fields.specs.Expiry.{is_second}

both : (a b : Bool) → (a && b) ≡ true → (a ≡ true) × (b ≡ true)
both true b is = (refl, is)
both false b is = cc

digit : (c : ℕ) → is_ascii_digit c ≡ true → digit_value c < 10
digit c test = grind (arith, nat_tests)

all_digits : (text : List ℕ) → list_all is_ascii_digit text ≡ true → AllDigits 10 text
all_digits [] all = tt
all_digits (c ∷ cs) all =
    let parts = both (is_ascii_digit c) (list_all is_ascii_digit cs) all in (digit c parts.0, all_digits cs parts.1)

least : (n : ℕ) → nat_le 1 n ≡ true → 0 < n
least n test = grind (arith, nat_tests)

most : (n : ℕ) → nat_le n 10 ≡ true → n ≤ 10
most n test = grind (arith, nat_tests)

-- the text of a second reads as a time of whole seconds
pub reads : (text : List ℕ) → is_second text ≡ true → IsTimeText text (digits_value 10 text * units_of_second)
reads text is =
    let first = both (nat_le 1 (length text)) (nat_le (length text) 10 && list_all is_ascii_digit text) is in
    let second = both (nat_le (length text) 10) (list_all is_ascii_digit text) first.1 in
    record {
      seconds = text;
      decimals = [];
      is_text = sym (append-nil text);
      are_seconds = (least (length text) first.0, all_digits text second.1);
      seconds_fit = most (length text) second.0;
      are_decimals = tt;
      decimals_fit = omega arith;
      is_units = omega arith;
    }
