use Rattle.std.proofs.Common.{◌≡◌, ◌<◌, ◌≤◌, length, length-take-le, get_or, take, Some, sym, ap, ◌∙◌, arith, inl, inr}
use Rattle.std.proofs.lemmas.Bool.{and_from}
use Rattle.std.proofs.lemmas.Bool.Decides.{nat_tests}
use Rattle.std.proofs.lemmas.Int.Digits.{digits_value_more, digits_more}
use Rattle.std.proofs.lemmas.List.{take_all}
use Rattle.std.proofs.lemmas.List.Folds.{list_all_at, list_all_more}
use Rattle.std.specs.Char.{digit_value, is_ascii_digit}
use Rattle.std.specs.List.{list_all}
use Rattle.std.specs.Str.Parse.{digits_value}
use Rattle.sw_message.proofs.Digits.{no_length_by_size, no_length_by_digit, some_length, short_number}
use Rattle.sw_message.proofs.framing.length_of.Goals as goal
use Rattle.sw_message.proofs.framing.length_of.Goals.{then-is_empty-via-then-is_empty, then-is_empty-via-else-is_empty+then-value-gt-MAX_LENGTH_DIGITS}

pub returns-then-is_empty : goal.returns-then-is_empty
returns-then-is_empty c = elim c.then-is_empty.branch [
  | then-is_empty-via-then-is_empty w ↦ no_length_by_size c.args.value.now (inl (grind (arith, nat_tests)))
  | then-is_empty-via-else-is_empty+then-value-gt-MAX_LENGTH_DIGITS w ↦ no_length_by_size c.args.value.now (inr w.if-value-gt-MAX_LENGTH_DIGITS.true)
]

pub returns-then-not-is_ascii_digit : goal.returns-then-not-is_ascii_digit
returns-then-not-is_ascii_digit c =
    no_length_by_digit _ (list_all_at is_ascii_digit c.args.value.now c.loop-digit.digit-index 0 c.loop-digit-test.true
    (sym c.if-not-is_ascii_digit.ensures.value))

pub loop-digit-preserved : goal.loop-digit-preserved
loop-digit-preserved c =
    let digit : digit_value (get_or c.args.value.now c.loop-digit.digit-index 0) ≡ c.from.result = grind (arith, nat_tests) in
    let small : digit_value (get_or c.args.value.now c.loop-digit.digit-index 0) < 10 = grind (arith, nat_tests) in
    let more = digits_value_more 10 c.args.value.now c.loop-digit.digit-index c.loop-digit-test.true in
    record {
      value = omega (arith, more, digit, c.loop-digit.invariant.value);
      digits = list_all_more is_ascii_digit c.args.value.now c.loop-digit.digit-index 0 c.loop-digit-test.true
          ∙ and_from _ _ c.loop-digit.invariant.digits (sym c.if-not-is_ascii_digit.ensures.value);
      numeral = digits_more 10 c.args.value.now c.loop-digit.digit-index c.loop-digit-test.true c.loop-digit.invariant.numeral small;
    }

pub returns : goal.returns
returns c =
    let all = take_all c.loop-digit.digit-index c.args.value.now c.loop-digit-test.false in
    let number = c.loop-digit.invariant.value ∙ ap (digits_value 10) all in
    let digits = sym (ap (list_all is_ascii_digit) all) ∙ c.loop-digit.invariant.digits in
    let some : 1 ≤ length c.args.value.now = grind (arith, nat_tests) in
    ap Some number ∙ some_length c.args.value.now some c.if-value-gt-MAX_LENGTH_DIGITS.false digits

pub overflow_mul-number : goal.overflow_mul-number
overflow_mul-number c =
    let few : length (take c.loop-digit.digit-index c.args.value.now) ≤ 17 =
    omega (arith, length-take-le c.loop-digit.digit-index c.args.value.now (omega arith)) in
    let small = short_number (take c.loop-digit.digit-index c.args.value.now) c.loop-digit.invariant.numeral few in
    omega (arith, small, c.loop-digit.invariant.value)

pub overflow_add-number : goal.overflow_add-number
overflow_add-number c =
    let few : length (take c.loop-digit.digit-index c.args.value.now) ≤ 17 =
    omega (arith, length-take-le c.loop-digit.digit-index c.args.value.now (omega arith)) in
    let small = short_number (take c.loop-digit.digit-index c.args.value.now) c.loop-digit.invariant.numeral few in
    let digit : digit_value (get_or c.args.value.now c.loop-digit.digit-index 0) ≡ c.from.result = grind (arith, nat_tests) in
    let less : digit_value (get_or c.args.value.now c.loop-digit.digit-index 0) < 10 = grind (arith, nat_tests) in
    omega (arith, small, digit, less, c.loop-digit.invariant.value)
