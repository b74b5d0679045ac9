-- What is kept after a point was set.
use Rattle.std.proofs.Common.{◌≡◌, ◌≢◌, ℕ, false, cond, [], ◌∷◌, Option, Some, refl, sym, ◌∙◌, ap}
use Rattle.std.specs.BTreeMap.{is_at}
use Rattle.std.specs.Cmp.{IsTotalOrder}
use Rattle.std.specs.Ordering.{is_eq, match_ordering, nat_cmp, ordering_then}
use Rattle.std.specs.declared.cmp.Ordering.{Ordering}
use Rattle.std.specs.declared.cmp.Ordering.TheVariants.{Less, Equal, Greater}
use Rattle.std.proofs.lemmas.Cmp.{nat_cmp_total, on_total, then_total, tied_itself}
use Rattle.std.proofs.lemmas.Map.Lookups.{exact_unsigned}
use Rattle.sw_sync.specs.Points.{PointKey, PointList, key_cmp, point_at, with_point}

pub key_total : IsTotalOrder key_cmp
key_total = then_total (on_total (λ (k : PointKey). k.0) nat_cmp_total) (on_total (λ (k : PointKey). k.1) nat_cmp_total)

-- the number that was set is the one that is kept
pub point-set : (points : PointList) (range device rowid : ℕ) → point_at (with_point points range device rowid) range device ≡ Some rowid
point-set [] range device rowid = rw (tied_itself key_total (range, device)) refl
point-set (p ∷ ps) range device rowid = by (key_cmp (range, device) p.0) refl (point-set ps range device rowid)
  where
    by : (o : Ordering) → key_cmp (range, device) p.0 ≡ o → point_at (with_point ps range device rowid) range device ≡ Some rowid
        → point_at (match_ordering o (((range, device), rowid) ∷ p ∷ ps) ((p.0, rowid) ∷ ps) (p ∷ with_point ps range device rowid)) range device
        ≡ Some rowid
    by Less is rest = rw (tied_itself key_total (range, device)) refl
    by Equal is rest = rw is refl
    by Greater is rest = rw is rest

-- ---- what is kept for others

-- a key that is one of this device is none of another
other-key : (range device other : ℕ) (k : PointKey) → key_cmp (range, device) k ≡ Equal → device ≢ other → is_eq (key_cmp (range, other) k) ≡ false
other-key range device other k same apart = by (key_cmp (range, other) k) refl
  where
    second : (a : ℕ) (o : Ordering) → ordering_then o (nat_cmp a k.1) ≡ Equal → a ≡ k.1
    second a Less is = cc
    second a Equal is = exact_unsigned a k.1 is
    second a Greater is = cc

    by : (o : Ordering) → key_cmp (range, other) k ≡ o → is_eq o ≡ false
    by Less is = refl
    by Equal is = absurd (apart (second device (nat_cmp range k.0) same ∙ sym (second other (nat_cmp range k.0) is)))
    by Greater is = refl

-- a point that is set leaves the others
pub point-other : (points : PointList) (range device rowid other : ℕ) → device ≢ other
    → point_at (with_point points range device rowid) range other ≡ point_at points range other
point-other [] range device rowid other apart = rw (other-key range device other (range, device) (tied_itself key_total (range, device)) apart) refl
point-other (p ∷ ps) range device rowid other apart =
    by (key_cmp (range, device) p.0) refl (point-other ps range device rowid other apart)
  where
    by : (o : Ordering) → key_cmp (range, device) p.0 ≡ o → point_at (with_point ps range device rowid) range other ≡ point_at ps range other
        → point_at (match_ordering o (((range, device), rowid) ∷ p ∷ ps) ((p.0, rowid) ∷ ps) (p ∷ with_point ps range device rowid)) range other
        ≡ point_at (p ∷ ps) range other
    by Less is rest = rw (other-key range device other (range, device) (tied_itself key_total (range, device)) apart) refl
    by Equal is rest = rw (other-key range device other p.0 is apart) refl
    by Greater is rest = ap (λ (o : Option ℕ). cond (is_at (key_cmp (range, other)) p.0) (Some p.1) o) rest
