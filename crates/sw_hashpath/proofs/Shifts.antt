-- The first p of w bits.
use Rattle.std.proofs.Common.{◌≡◌, ℕ, ◌+◌, ◌-◌, ◌/◌, ◌^◌, ◌<◌, ◌≤◌, arith}
use Rattle.std.proofs.lemmas.Nat.{shr_below}

pub first_bits : (n w p : ℕ) → p ≤ w → n < 2 ^ w → n / 2 ^ (w - p) < 2 ^ p
first_bits n w p within small =
    let whole : p + (w - p) ≡ w = omega arith in
    shr_below n p (w - p) (rw whole small)
