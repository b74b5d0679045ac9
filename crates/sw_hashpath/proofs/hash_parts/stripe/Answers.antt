-- What is left of 8 bits after a shift by 8 - lock_bits has lock_bits bits.
use Rattle.std.proofs.Common.{◌^◌, ◌<◌, ◌≤◌, arith}
use Rattle.sw_hashpath.proofs.Shifts.{first_bits}
use Rattle.sw_hashpath.proofs.hash_parts.stripe.Goals as goal

pub returns-clause-below : goal.returns-clause-below
returns-clause-below c =
    let within : c.args.lock_bits ≤ 8 = omega arith in
    let small : c.from.result < 2 ^ 8 = rw c.from.ensures (c.fits-hash 0) in
    first_bits c.from.result 8 c.args.lock_bits within small
