-- The locks of two devices.
use Rattle.std.proofs.Common.{◌≢◌, ℕ, suc, ◌+◌, ◌*◌, ◌<◌, ◌≤◌, ◌⊎◌, inl, inr, arith}
use Rattle.std.proofs.lemmas.Bool.{cases_lt}
use Rattle.std.proofs.Math.Nat.{mul-le-mul_right, suc-mul}

-- a lock of another device is before those of this one, or past them
pub apart-from : (n d e s : ℕ) → s < n → d ≢ e → (d * n + s < e * n) ⊎ (e * n + n ≤ d * n + s)
apart-from n d e s below away = by (cases_lt d e)
  where
    -- the first place of a later device
    further : (a b : ℕ) → a < b → a * n + n ≤ b * n
    further a b less = rw (← suc-mul a n) (mul-le-mul_right {m = suc a} {n = b} n (omega (arith, less)))

    by : (d < e) ⊎ (e ≤ d) → (d * n + s < e * n) ⊎ (e * n + n ≤ d * n + s)
    by (inl less) = let up = further d e less in inl (omega (arith, up, below))
    by (inr more) = let less : e < d = omega (arith, more, away) in let up = further e d less in inr (omega (arith, up))
