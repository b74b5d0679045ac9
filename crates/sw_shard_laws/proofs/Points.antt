-- What is kept once a point was raised.
use Rattle.std.proofs.Common.{◌≡◌, ℕ, ◌≤◌, Bool, true, false, cond, nat_eq, ◌⊎◌, inl, inr, [], ◌∷◌, Option}
use Rattle.std.proofs.Common.{None, Some, refl, sym, ◌∙◌, ap, subst, arith}
use Rattle.std.specs.BTreeMap.{is_at}
use Rattle.std.specs.Ordering.{is_eq, match_ordering, nat_cmp, ordering_then}
use Rattle.std.specs.declared.cmp.Ordering.{Ordering}
use Rattle.std.specs.declared.cmp.Ordering.TheVariants.{Less, Equal, Greater}
use Rattle.std.proofs.lemmas.Bool.{eqb-true, eqb-false, ltb-false, ltb-true}
use Rattle.std.proofs.lemmas.Cmp.{tied_itself}
use Rattle.std.proofs.lemmas.Map.Lookups.{exact_unsigned}
use Rattle.sw_sync.proofs.Setting.{key_total, point-set}
use Rattle.sw_sync.specs.Points.{PointKey, PointList, is_above, key_cmp, point_at, raised, with_point}
use Rattle.sw_shard_laws.proofs.Nothing.{nothing}
use Rattle.sw_shard_laws.specs.Laws.{NumbersAreKept}
use Rattle.sw_shard_laws.specs.Ledger.{IsUnder}

-- ---- a point that is set leaves those of other keys

same-keys : (a b : PointKey) → key_cmp a b ≡ Equal → (a.0 ≡ b.0) × (a.1 ≡ b.1)
same-keys a b is = by (nat_cmp a.0 b.0) refl is
  where
    by : (o : Ordering) → nat_cmp a.0 b.0 ≡ o → ordering_then o (nat_cmp a.1 b.1) ≡ Equal → (a.0 ≡ b.0) × (a.1 ≡ b.1)
    by Less first is = cc
    by Equal first is = (exact_unsigned a.0 b.0 first, exact_unsigned a.1 b.1 is)
    by Greater first is = cc

-- a key that is one of these is none of others
other-key : (a b k : PointKey) → ((a.0 ≡ b.0) × (a.1 ≡ b.1) → ⊥) → key_cmp a k ≡ Equal → is_eq (key_cmp b k) ≡ false
other-key a b k apart same = by (key_cmp b k) refl
  where
    by : (o : Ordering) → key_cmp b k ≡ o → is_eq o ≡ false
    by Less is = refl
    by Equal is = let one = same-keys a k same in let two = same-keys b k is in absurd (apart (one.0 ∙ sym two.0, one.1 ∙ sym two.1))
    by Greater is = refl

point-away : (points : PointList) (i f q r e : ℕ) → ((i ≡ r) × (f ≡ e) → ⊥) → point_at (with_point points i f q) r e ≡ point_at points r e
point-away [] i f q r e apart = rw (other-key (i, f) (r, e) (i, f) apart (tied_itself key_total (i, f))) refl
point-away (p ∷ ps) i f q r e apart = by (key_cmp (i, f) p.0) refl (point-away ps i f q r e apart)
  where
    by : (o : Ordering) → key_cmp (i, f) p.0 ≡ o → point_at (with_point ps i f q) r e ≡ point_at ps r e
        → point_at (match_ordering o (((i, f), q) ∷ p ∷ ps) ((p.0, q) ∷ ps) (p ∷ with_point ps i f q)) r e ≡ point_at (p ∷ ps) r e
    by Less is rest = rw (other-key (i, f) (r, e) (i, f) apart (tied_itself key_total (i, f))) refl
    by Equal is rest = rw (other-key (i, f) (r, e) p.0 apart is) refl
    by Greater is rest = ap (λ (o : Option ℕ). cond (is_at (key_cmp (r, e)) p.0) (Some p.1) o) rest

-- ---- a point that is raised

-- what is kept of a key is what was kept, or the key is the one that was raised and the number is the new one
pub raised-from : (points : PointList) (i f q r e x : ℕ) → point_at (raised points i f q) r e ≡ Some x
    → ((i ≡ r) × (f ≡ e) × (x ≡ q)) ⊎ (point_at points r e ≡ Some x)
raised-from points i f q r e x is = by (is_above q (point_at points i f)) is
  where
    at : (b c : Bool) → nat_eq i r ≡ b → nat_eq f e ≡ c → point_at (with_point points i f q) r e ≡ Some x
        → ((i ≡ r) × (f ≡ e) × (x ≡ q)) ⊎ (point_at points r e ≡ Some x)
    at true true range device is =
        let ranges : i ≡ r = eqb-true i r range in
        let devices : f ≡ e = eqb-true f e device in
        let here : point_at (with_point points i f q) r e ≡ Some q =
        subst (λ (z : ℕ). point_at (with_point points i f q) z e ≡ Some q) ranges
        (subst (λ (z : ℕ). point_at (with_point points i f q) i z ≡ Some q) devices (point-set points i f q)) in
        let same : Some x ≡ Some q = sym is ∙ here in
        inl (ranges, devices, cc)
    at true false range device is = inr (sym (point-away points i f q r e (λ same. eqb-false f e device same.1)) ∙ is)
    at false c range device is = inr (sym (point-away points i f q r e (λ same. eqb-false i r range same.0)) ∙ is)

    by : (b : Bool) → point_at (cond b (with_point points i f q) points) r e ≡ Some x → ((i ≡ r) × (f ≡ e) × (x ≡ q)) ⊎ (point_at points r e ≡ Some x)
    by true is = at (nat_eq i r) (nat_eq f e) refl refl is
    by false is = inr is

-- so what is under it was under the old one, or is at most the new number
pub raised-under : (points : PointList) (i f q r e k : ℕ) → IsUnder (point_at (raised points i f q) r e) k
    → ((i ≡ r) × (f ≡ e) × (k ≤ q)) ⊎ IsUnder (point_at points r e) k
raised-under points i f q r e k is = by (raised-from points i f q r e is.0 is.1)
  where
    by : ((i ≡ r) × (f ≡ e) × (is.0 ≡ q)) ⊎ (point_at points r e ≡ Some is.0) → ((i ≡ r) × (f ≡ e) × (k ≤ q)) ⊎ IsUnder (point_at points r e) k
    by (inl here) = inl (here.0, here.1, subst (λ (z : ℕ). k ≤ z) here.2 is.2)
    by (inr old) = inr (is.0, old, is.2)

-- and what was under a point stays so
pub under-raised : (points : PointList) (i f q r e k : ℕ) → IsUnder (point_at points r e) k → IsUnder (point_at (raised points i f q) r e) k
under-raised points i f q r e k is = by (is_above q (point_at points i f)) refl
  where
    up : (o : Option ℕ) → is_above q o ≡ true → IsUnder o k → k ≤ q
    up None above under = absurd (nothing under.0 under.1)
    up (Some x) above under =
        let same : x ≡ under.0 = cc under.1 in
        let low : k ≤ x = subst (λ (z : ℕ). k ≤ z) (sym same) under.2 in
        let more = ltb-true x q above in
        omega (arith, low, more)

    at : (b c : Bool) → nat_eq i r ≡ b → nat_eq f e ≡ c → is_above q (point_at points i f) ≡ true → IsUnder (point_at (with_point points i f q) r e) k
    at true true range device above =
        let ranges : i ≡ r = eqb-true i r range in
        let devices : f ≡ e = eqb-true f e device in
        let mine : IsUnder (point_at points i f) k =
        subst (λ (z : ℕ). IsUnder (point_at points z f) k) (sym ranges) (subst (λ (z : ℕ). IsUnder (point_at points r z) k) (sym devices) is) in
        subst (λ (z : ℕ). IsUnder (point_at (with_point points i f q) z e) k) ranges
        (subst (λ (z : ℕ). IsUnder (point_at (with_point points i f q) i z) k) devices
        (q, point-set points i f q, up (point_at points i f) above mine))
    at true false range device above = (is.0, point-away points i f q r e (λ same. eqb-false f e device same.1) ∙ is.1, is.2)
    at false c range device above = (is.0, point-away points i f q r e (λ same. eqb-false i r range same.0) ∙ is.1, is.2)

    by : (b : Bool) → is_above q (point_at points i f) ≡ b → IsUnder (point_at (cond b (with_point points i f q) points) r e) k
    by true above = at (nat_eq i r) (nat_eq f e) refl refl above
    by false above = is

-- what is raised isn't below the new number
pub raised-itself : (points : PointList) (i f q : ℕ) → IsUnder (point_at (raised points i f q) i f) q
raised-itself points i f q = by (is_above q (point_at points i f)) refl
  where
    kept : (o : Option ℕ) → is_above q o ≡ false → IsUnder o q
    kept None less = cc
    kept (Some x) less = (x, refl, ltb-false x q less)

    by : (b : Bool) → is_above q (point_at points i f) ≡ b → IsUnder (point_at (cond b (with_point points i f q) points) i f) q
    by true more = (q, point-set points i f q, omega arith)
    by false less = kept (point_at points i f) less

pub numbers-kept : NumbersAreKept
numbers-kept t range device rowid = (raised-itself t.points range device rowid, raised-itself t.syncs 0 device rowid)
