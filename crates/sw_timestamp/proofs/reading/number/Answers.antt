use Rattle.std.proofs.Common.{get_or, arith}
use Rattle.std.proofs.lemmas.Int.Digits.{digits_value_more}
use Rattle.sw_timestamp.proofs.DigitsAtFront.{digit_at, digit_is}
use Rattle.sw_timestamp.proofs.UnitsBound.{ten_digits-take}
use Rattle.sw_timestamp.proofs.reading.number.Goals as goal

pub overflow_mul-number : goal.overflow_mul-number
overflow_mul-number c =
    omega (arith, ten_digits-take c.args.digits.now c.loop-digit.digit-index c.requires.are_digits c.requires.fit)

pub overflow_sub-digit : goal.overflow_sub-digit
overflow_sub-digit c =
    (digit_is _ (digit_at c.args.digits.now c.loop-digit.digit-index c.requires.are_digits c.loop-digit-test.true)).0

pub overflow_add-number : goal.overflow_add-number
overflow_add-number c =
    let most = ten_digits-take c.args.digits.now c.loop-digit.digit-index c.requires.are_digits c.requires.fit in
    let small = digit_at c.args.digits.now c.loop-digit.digit-index c.requires.are_digits c.loop-digit-test.true in
    let is = digit_is (get_or c.args.digits.now c.loop-digit.digit-index 0) small in
    let byte = c.from.ensures in
    omega arith

pub loop-digit-preserved : goal.loop-digit-preserved
loop-digit-preserved c =
    let small = digit_at c.args.digits.now c.loop-digit.digit-index c.requires.are_digits c.loop-digit-test.true in
    let is = digit_is (get_or c.args.digits.now c.loop-digit.digit-index 0) small in
    let byte = c.from.ensures in
    let more = digits_value_more 10 c.args.digits.now c.loop-digit.digit-index c.loop-digit-test.true in
    omega arith
