-- The moment of a time in nanoseconds.
use Rattle.std.proofs.Common.{◌≡◌, ℕ, ◌*◌, ◌≤◌, ℤ, pos, ◌+ℤ◌, ◌*ℤ◌, arith, w64}
use Rattle.std.proofs.lemmas.Int.{ints}
use mir.Val.{to_z, of_z}

pub nanos_is : (n : ℕ) (z : ℤ) → n ≤ 999999999999999 → z ≡ to_z w64 (of_z w64 (to_z w64 n *ℤ pos 10)) *ℤ pos 1000 → z +ℤ pos 0 ≡ pos (n * 10000)
nanos_is n z most is = omega (arith, ints)
