-- Sync points in order of their devices.
use Rattle.std.proofs.Common.{◌≡◌, ◌∙◌, ◌+◌, ◌<◌, ◌≤◌, ℕ, [], ◌∷◌, ◌++◌, refl, sym, ap, arith}
use Rattle.std.specs.Cmp.{nat_cmp_is}
use Rattle.std.specs.Ordering.{nat_cmp, ordering_then}
use Rattle.std.specs.declared.cmp.Ordering.{Ordering}
use Rattle.std.specs.declared.cmp.Ordering.TheVariants.{Equal, Greater}
use Rattle.sw_sync.specs.Points.{PointKey, PointList, key_cmp, with_point}
use Rattle.sw_container_store.specs.Telling.{AreSyncs}

low-high : (low high : ℕ) (points : PointList) → AreSyncs low high points → low ≤ high
low-high low high [] are = are
low-high low high (point ∷ points) are =
    let rest = low-high (point.0.1 + 1) high points are.2 in
    omega (arith, are.1, rest)

-- they are below each greater number too
pub below-more : (low high more : ℕ) (points : PointList) → AreSyncs low high points → high ≤ more → AreSyncs low more points
below-more low high more [] are up = omega (arith, are, up)
below-more low high more (point ∷ points) are up = (are.0, are.1, below-more (point.0.1 + 1) high more points are.2 up)

-- one more behind them
pub syncs-more : (low high device rowid : ℕ) (points : PointList) → AreSyncs low high points → high ≤ device →
    AreSyncs low (device + 1) (points ++ ((0, device), rowid) ∷ [])
syncs-more low high device rowid [] are above = (refl, omega (arith, are, above), omega arith)
syncs-more low high device rowid (point ∷ points) are above = (are.0, are.1, syncs-more (point.0.1 + 1) high device rowid points are.2 above)

behind : (device : ℕ) (key : PointKey) → key.0 ≡ 0 → key.1 < device → key_cmp (0, device) key ≡ Greater
behind device key whole below =
    ap (λ (o : Ordering). ordering_then o (nat_cmp device key.1)) (sym (nat_cmp_is 0 key.0 Equal (sym whole))) ∙ sym (nat_cmp_is device key.1 Greater below)

-- that of a device which isn't below is put behind them
pub put-above : (low high device rowid : ℕ) (points : PointList) → AreSyncs low high points → high ≤ device →
    with_point points 0 device rowid ≡ points ++ ((0, device), rowid) ∷ []
put-above low high device rowid [] are above = refl
put-above low high device rowid (point ∷ points) are above =
    let most = low-high (point.0.1 + 1) high points are.2 in
    let rest = put-above (point.0.1 + 1) high device rowid points are.2 above in
    rw (behind device point.0 are.0 (omega (arith, most, above))) (ap (λ (ps : PointList). point ∷ ps) rest)
