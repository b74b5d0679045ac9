-- How many locks a device has.
use Rattle.std.proofs.Common.{◌≡◌, ℕ, ◌+◌, ◌*◌, ◌-◌, ◌/◌, ◌%◌, ◌^◌, ◌<◌, ◌≤◌, sym, ◌∙◌, ap, arith, subst}
use Rattle.std.proofs.lemmas.Nat.{div_below, one_shl, pow-add, pow_pos, rows}
use Rattle.std.proofs.Math.Nat.{mod-eq_of_lt, pow-le-pow_right}
use Rattle.sw_core.specs.Worlds.{part_lock_of}

pub few : (b : ℕ) → b ≤ 4 → 2 ^ b ≤ 16
few b h = pow-le-pow_right {n = 2} (omega arith) h

pub shifted : (b : ℕ) → b ≤ 4 → 1 * 2 ^ b % 2 ^ 64 ≤ 16
shifted b h = let within : b < 64 = omega (arith, h) in rw (one_shl b 64 within) (few b h)

-- a partition below 2 to the power has a stripe below 2 to the bits
pub part-below : (bits power part : ℕ) → bits ≤ power → part < 2 ^ power → part / 2 ^ (power - bits) < 2 ^ bits
part-below bits power part fine below =
    let sum : bits + (power - bits) ≡ power = omega (arith, fine) in
    let split : 2 ^ power ≡ 2 ^ bits * 2 ^ (power - bits) = ap (λ (n : ℕ). 2 ^ n) (sym sum) ∙ pow-add 2 bits (power - bits) in
    div_below part (2 ^ (power - bits)) (2 ^ bits) (pow_pos (power - bits)) (subst (λ (n : ℕ). part < n) split below)

-- so that it is its own remainder
pub lock-is : (bits power device part : ℕ) → bits ≤ power → part < 2 ^ power
    → device * 2 ^ bits + part / 2 ^ (power - bits) ≡ part_lock_of bits power device part
lock-is bits power device part fine below = ap (λ (n : ℕ). device * 2 ^ bits + n) (sym (mod-eq_of_lt (part-below bits power part fine below)))

-- and such a lock is within
pub lock-within : (bits devices device stripe : ℕ) → device < devices → stripe < 2 ^ bits → device * 2 ^ bits + stripe < devices * 2 ^ bits
lock-within bits devices device stripe first second = grind (arith, rows)
