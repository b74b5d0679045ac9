-- Points in order of their ranges and devices.
use Rattle.std.proofs.Common.{◌≡◌, ◌∙◌, ◌⊎◌, ◌+◌, ◌<◌, ◌≤◌, ℕ, [], ◌∷◌, ◌++◌, inl, inr, refl, sym, ap, arith}
use Rattle.std.specs.Bool.{⊤}
use Rattle.std.specs.Cmp.{nat_cmp_is}
use Rattle.std.specs.Ordering.{nat_cmp, ordering_then}
use Rattle.std.specs.declared.cmp.Ordering.{Ordering}
use Rattle.std.specs.declared.cmp.Ordering.TheVariants.{Equal, Greater}
use Rattle.sw_sync.specs.Points.{PointKey, PointList, key_cmp, with_point}

-- a key stands before that of this range and device
abbrev pub IsBefore : ℕ → ℕ → PointKey → Type 0
IsBefore range device key = (key.0 < range) ⊎ ((key.0 ≡ range) × (key.1 < device))

abbrev pub AreBefore : ℕ → ℕ → PointList → Type 0
AreBefore range device [] = ⊤
AreBefore range device (point ∷ points) = IsBefore range device point.0 × AreBefore range device points

-- a range and a device at or behind these
abbrev pub IsAtLeast : ℕ → ℕ → ℕ → ℕ → Type 0
IsAtLeast range device least_range least = (least_range < range) ⊎ ((range ≡ least_range) × (least ≤ device))

later : (range device least_range least : ℕ) (key : PointKey) → IsBefore least_range least key → IsAtLeast range device least_range least
    → IsBefore range device key
later range device least_range least key (inl below) (inl above) = inl (omega (arith, below, above))
later range device least_range least key (inl below) (inr same) = inl (omega (arith, below, same.0))
later range device least_range least key (inr equal) (inl above) = inl (omega (arith, equal.0, above))
later range device least_range least key (inr equal) (inr same) = inr (omega (arith, equal.0, same.0), omega (arith, equal.1, same.1))

-- they stand before each one that is at or behind the least which may follow
pub before-more : (range device least_range least : ℕ) (points : PointList) → AreBefore least_range least points
    → IsAtLeast range device least_range least → AreBefore range device points
before-more range device least_range least [] are at = tt
before-more range device least_range least (point ∷ points) are at =
    (later range device least_range least point.0 are.0 at, before-more range device least_range least points are.1 at)

-- one more behind them
pub points-more : (range device rowid : ℕ) (points : PointList) → AreBefore range device points
    → AreBefore range (device + 1) (points ++ ((range, device), rowid) ∷ [])
points-more range device rowid [] are = (inr (refl, omega arith), tt)
points-more range device rowid (point ∷ points) are =
    (later range (device + 1) range device point.0 are.0 (inr (refl, omega arith)), points-more range device rowid points are.1)

behind : (range device : ℕ) (key : PointKey) → IsBefore range device key → key_cmp (range, device) key ≡ Greater
behind range device key (inl below) = ap (λ (o : Ordering). ordering_then o (nat_cmp device key.1)) (sym (nat_cmp_is range key.0 Greater below))
behind range device key (inr equal) =
    ap (λ (o : Ordering). ordering_then o (nat_cmp device key.1)) (sym (nat_cmp_is range key.0 Equal (sym equal.0)))
    ∙ sym (nat_cmp_is device key.1 Greater equal.1)

-- that of a key which all stand before is put behind them
pub put-behind : (range device rowid : ℕ) (points : PointList) → AreBefore range device points
    → with_point points range device rowid ≡ points ++ ((range, device), rowid) ∷ []
put-behind range device rowid [] are = refl
put-behind range device rowid (point ∷ points) are =
    rw (behind range device point.0 are.0) (ap (λ (ps : PointList). point ∷ ps) (put-behind range device rowid points are.1))
