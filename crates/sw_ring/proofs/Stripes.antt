-- A device has 16 locks at most.
use Rattle.std.proofs.Common.{ℕ, ◌*◌, ◌%◌, ◌^◌, ◌<◌, ◌≤◌, arith}
use Rattle.std.proofs.Math.Nat.{pow-le-pow_right}
use Rattle.std.proofs.lemmas.Nat.{one_shl}

pub few : (bits : ℕ) → bits ≤ 4 → 1 * 2 ^ bits % 2 ^ 8 ≤ 16
few bits h = let within : bits < 8 = omega (arith, h) in rw (one_shl bits 8 within) (pow-le-pow_right {n = 2} (omega arith) h)
