-- Calls that are counted one by one.
use Rattle.std.proofs.Common.{◌≡◌, ℕ, zero, suc, ◌+◌, ◌-◌, ◌^◌, ◌≤◌, refl, ◌∙◌, ap, arith}
use Rattle.sw_outside.specs.Counts.{raised}
use Rattle.sw_volume.specs.Volume.{raised_by}

-- some calls, and then more
pub raised_by-plus : (later first n : ℕ) → raised_by later (raised_by first n) ≡ raised_by (later + first) n
raised_by-plus zero first n = ap (λ k. raised_by k n) (let e : first ≡ 0 + first = omega arith in e)
raised_by-plus (suc later) first n =
    ap raised (raised_by-plus later first n) ∙ ap (λ k. raised_by k n) (let e : suc (later + first) ≡ suc later + first = omega arith in e)

-- one call, and then more
pub raised_by-from_one : (calls n : ℕ) → raised_by calls (raised n) ≡ raised_by (calls + 1) n
raised_by-from_one calls n = raised_by-plus calls 1 n

-- one call more, of a list that is gone through by an index
pub one_more_call : (calls n before : ℕ) → n ≡ raised_by calls before → raised n ≡ raised_by (calls + 1) before
one_more_call calls n before e = ap raised e ∙ ap (λ k. raised_by k before) (let e : suc calls ≡ calls + 1 = omega arith in e)

-- below the greatest count, each call counts
pub raised_by-is : (calls n : ℕ) → n + calls ≤ 2 ^ 64 - 1 → raised_by calls n ≡ n + calls
raised_by-is zero n le = let e : n ≡ n + 0 = omega arith in e
raised_by-is (suc calls) n le =
    let before : raised_by calls n ≡ n + calls = raised_by-is calls n (omega (arith, le)) in
    ap raised before ∙ (let e : raised (n + calls) ≡ n + suc calls = omega (arith, le) in e)

-- a count that stood still had no call, or is the greatest
pub raised_by-still : (calls n : ℕ) → n ≡ raised_by calls n → n + 1 ≤ 2 ^ 64 - 1 → calls ≡ 0
raised_by-still zero n e le = refl
raised_by-still (suc calls) n e le = absurd (above (raised_by calls n) (least calls) e)
  where
    least : (k : ℕ) → n ≤ raised_by k n
    least zero = omega arith
    least (suc k) = let more = least k in omega (arith, more, le)

    above : (m : ℕ) → n ≤ m → n ≡ raised m → ⊥
    above m more same = omega (arith, more, same, le)
