-- Digits of a value.
use Rattle.std.proofs.Common.{◌≡◌, ℕ, ◌<◌, ◌≤◌, min, true, leb, ◌&&◌, List, [], ◌∷◌, length, get_or, Option, Some, None, ap, refl, ◌∙◌, arith}
use Rattle.std.proofs.lemmas.Bool.{and_from, and_parts, cond-true, le-leb, leb-true}
use Rattle.std.proofs.lemmas.Bool.Decides.{nat_tests}
use Rattle.std.proofs.lemmas.Option.{cond_some}
use Rattle.std.proofs.lemmas.Str.Parse.{digit_at}
use Rattle.std.specs.Char.{digit_value, is_ascii_digit}
use Rattle.std.specs.Int.{IsInRange}
use Rattle.std.specs.List.{list_all}
use Rattle.std.specs.Str.Parse.{AllDigits, digits_value}
use Rattle.sw_words.specs.Reading.{is_numeral, number_within}
use Rattle.sw_words.specs.Serve.{IsNumberWithin}

digit : (c : ℕ) → is_ascii_digit c ≡ true → digit_value c < 10
digit c test = grind (arith, nat_tests)

all_digits : (text : List ℕ) → list_all is_ascii_digit text ≡ true → AllDigits 10 text
all_digits [] all = tt
all_digits (c ∷ cs) all =
    let parts = and_parts (is_ascii_digit c) (list_all is_ascii_digit cs) all in
    (digit c parts.0, all_digits cs parts.1)

pub digit_in : (text : List ℕ) (i : ℕ) → list_all is_ascii_digit text ≡ true → i < length text → IsInRange 48 57 (get_or text i 0)
digit_in text i are inside = digit_at text i (all_digits text are) inside

some_or_none : {A : Type 0} (o : Option A) → ((x : A) → o ≡ Some x → ⊥) → o ≡ None
some_or_none None never = refl
some_or_none (Some x) never = absurd (never x refl)

-- ---- a number from one to another

-- what is read is what is written
pub number_is_written : (least greatest : ℕ) (text : List ℕ) (number : ℕ)
    → number_within least greatest text ≡ Some number → IsNumberWithin least greatest text number
unfolding number_within
number_is_written least greatest text number is =
    let found = cond_some (is_numeral text && (leb least (digits_value 10 text) && leb (digits_value 10 text) greatest)) (digits_value 10 text) number is in
    let parts = and_parts (is_numeral text) (leb least (digits_value 10 text) && leb (digits_value 10 text) greatest) found.0 in
    let numeral = and_parts (leb 1 (length text)) (leb (length text) 20 && list_all is_ascii_digit text) parts.0 in
    let digits = and_parts (leb (length text) 20) (list_all is_ascii_digit text) numeral.1 in
    let bounds = and_parts (leb least (digits_value 10 text)) (leb (digits_value 10 text) greatest) parts.1 in
    let low : least ≤ digits_value 10 text = leb-true _ _ bounds.0 in
    let high : digits_value 10 text ≤ greatest = leb-true _ _ bounds.1 in
    let same : digits_value 10 text ≡ number = found.1 in
    record {
      some = leb-true _ _ numeral.0;
      few = leb-true _ _ digits.0;
      digits = digits.1;
      value = same;
      at_least = omega arith;
      at_most = omega arith;
    }

-- and what is written is read
pub number_is_read : (least greatest : ℕ) (text : List ℕ) (number : ℕ)
    → IsNumberWithin least greatest text number → number_within least greatest text ≡ Some number
unfolding number_within
number_is_read least greatest text number is =
    let value = is.value in
    let low : least ≤ digits_value 10 text = let h = is.at_least in omega arith in
    let high : digits_value 10 text ≤ greatest = let h = is.at_most in omega arith in
    let numeral : is_numeral text ≡ true = and_from _ _ (le-leb _ _ is.some) (and_from _ _ (le-leb _ _ is.few) is.digits) in
    let bounds : (leb least (digits_value 10 text) && leb (digits_value 10 text) greatest) ≡ true = and_from _ _ (le-leb _ _ low) (le-leb _ _ high) in
    cond-true (is_numeral text && (leb least (digits_value 10 text) && leb (digits_value 10 text) greatest)) (Some (digits_value 10 text)) None
    (and_from _ _ numeral bounds)
    ∙ ap Some value

-- the number that is read off digits, one over the greatest standing for more, is the number where it is within
pub kept_below : (least greatest : ℕ) (text : List ℕ) (number : ℕ) → greatest ≤ 65536 → number ≡ min (digits_value 10 text) 65537
    → is_numeral text ≡ true → least ≤ number → number ≤ greatest → number_within least greatest text ≡ Some number
kept_below least greatest text number small is numeral low high =
    let lengths = and_parts (leb 1 (length text)) (leb (length text) 20 && list_all is_ascii_digit text) numeral in
    let digits = and_parts (leb (length text) 20) (list_all is_ascii_digit text) lengths.1 in
    number_is_read least greatest text number (record {
      some = leb-true _ _ lengths.0;
      few = leb-true _ _ digits.0;
      digits = digits.1;
      value = omega arith;
      at_least = low;
      at_most = high;
    })

pub not_within : (least greatest : ℕ) (text : List ℕ) (number : ℕ) → greatest ≤ 65536 → number ≡ min (digits_value 10 text) 65537
    → (least ≤ number → number ≤ greatest → ⊥) → number_within least greatest text ≡ None
not_within least greatest text number small is out = some_or_none (number_within least greatest text) (λ found e.
    let written = number_is_written least greatest text found e in
    let value = written.value in
    let low = written.at_least in
    let high = written.at_most in
    let same : found ≡ number = omega arith in
    out (omega arith) (omega arith))
