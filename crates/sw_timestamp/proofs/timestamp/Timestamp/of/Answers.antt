use Rattle.std.proofs.Common.{arith}
use Rattle.sw_timestamp.proofs.UnitsBound.{scaled_decimals, ten_digits, units_bound}
use Rattle.sw_timestamp.proofs.timestamp.Timestamp.of.Goals as goal

pub overflow_mul-units : goal.overflow_mul-units
overflow_mul-units c = omega (arith, ten_digits c.args.seconds.now c.requires.are_seconds.1 c.requires.seconds_fit)

pub overflow_mul-units-2 : goal.overflow_mul-units-2
overflow_mul-units-2 c =
    rw (c.number-2.ensures, c.pow.ensures) (omega (arith, scaled_decimals c.args.decimals.now c.requires.are_decimals c.requires.decimals_fit))

pub overflow_add-units : goal.overflow_add-units
overflow_add-units c =
    rw (c.number.ensures, c.number-2.ensures, c.pow.ensures) (omega (
      arith,
      ten_digits c.args.seconds.now c.requires.are_seconds.1 c.requires.seconds_fit,
      scaled_decimals c.args.decimals.now c.requires.are_decimals c.requires.decimals_fit,
    ))

pub invariant_of-result : goal.invariant_of-result
invariant_of-result c =
    rw (c.number.ensures, c.number-2.ensures, c.pow.ensures) (units_bound c.args.seconds.now c.args.decimals.now c.requires.are_seconds.1 c.requires.seconds_fit
    c.requires.are_decimals c.requires.decimals_fit)
