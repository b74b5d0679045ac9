use Rattle.std.proofs.Common.{get_or, arith}
use Rattle.std.proofs.lemmas.Int.Digits.{digits_value_more}
use Rattle.std.proofs.lemmas.Str.{digit_value_digit}
use Rattle.sw_words.proofs.Numerals.{digit_in}
use Rattle.sw_words.proofs.number.number_of.Goals as goal

pub overflow_sub-digit : goal.overflow_sub-digit
overflow_sub-digit c = (digit_in c.args.digits.now c.loop-digit.digit-index c.requires c.loop-digit-test.true).0

pub loop-digit-preserved : goal.loop-digit-preserved
loop-digit-preserved c =
    let digit = digit_in c.args.digits.now c.loop-digit.digit-index c.requires c.loop-digit-test.true in
    let value = digit_value_digit (get_or c.args.digits.now c.loop-digit.digit-index 0) digit in
    let byte = c.from.ensures in
    let least = c.min-number.ensures in
    let more = digits_value_more 10 c.args.digits.now c.loop-digit.digit-index c.loop-digit-test.true in
    omega arith
