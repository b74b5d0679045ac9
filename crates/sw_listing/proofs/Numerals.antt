-- Digits of a limit.
use Rattle.std.proofs.Common.{◌≡◌, ℕ, ◌<◌, true, List, [], ◌∷◌, length, get_or, arith}
use Rattle.std.proofs.lemmas.Bool.{and_parts}
use Rattle.std.proofs.lemmas.Bool.Decides.{nat_tests}
use Rattle.std.proofs.lemmas.Str.Parse.{digit_at}
use Rattle.std.specs.Char.{digit_value, is_ascii_digit}
use Rattle.std.specs.Int.{IsInRange}
use Rattle.std.specs.List.{list_all}
use Rattle.std.specs.Str.Parse.{AllDigits}
use Rattle.sw_listing.specs.Queries.{is_numeral}

digit : (c : ℕ) → is_ascii_digit c ≡ true → digit_value c < 10
digit c test = grind (arith, nat_tests)

all_digits : (text : List ℕ) → list_all is_ascii_digit text ≡ true → AllDigits 10 text
all_digits [] all = tt
all_digits (c ∷ cs) all =
    let parts = and_parts (is_ascii_digit c) (list_all is_ascii_digit cs) all in
    (digit c parts.0, all_digits cs parts.1)

pub digit_in : (text : List ℕ) (i : ℕ) → is_numeral text ≡ true → i < length text → IsInRange 48 57 (get_or text i 0)
digit_in text i is inside = digit_at text i (all_digits text (and_parts _ (list_all is_ascii_digit text) is).1) inside
