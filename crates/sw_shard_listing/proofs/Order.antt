-- The order of names by their bytes.
use Rattle.std.proofs.Common.{◌≡◌, ℕ, true, false, not, List, [], ◌∷◌, ◌++◌, refl, ◌∙◌, ap, subst, arith, ◌⊎◌, inl, inr}
use Rattle.std.specs.Cmp.Lexicographic.{slice_cmp, nat_list_cmp_total}
use Rattle.std.specs.Ordering.{nat_cmp, is_lt, ordering_reverse}
use Rattle.std.specs.declared.cmp.Ordering.{Ordering}
use Rattle.std.specs.declared.cmp.Ordering.TheVariants.{Less, Equal, Greater}
use Rattle.std.proofs.lemmas.Bool.Decides.{nat_tests}
use Rattle.std.proofs.lemmas.Map.Lookups.{exact_bytes}
use Rattle.std.proofs.lemmas.Cmp.{tied_itself}
use Rattle.sw_listing.specs.Asking.{is_before}
use Rattle.sw_shard_listing.specs.Laws.{IsPlain}

abbrev pub Lt : List ℕ → List ℕ → Type 0
Lt x y = is_before x y ≡ true

less-from : (o : Ordering) → is_lt o ≡ true → o ≡ Less
less-from Less h = refl
less-from Equal h = cc
less-from Greater h = cc

pub lt-trans : (x y z : List ℕ) → Lt x y → Lt y z → Lt x z
lt-trans x y z p q = ap is_lt (nat_list_cmp_total.trans x y z (less-from (slice_cmp nat_cmp x y) p) (less-from (slice_cmp nat_cmp y z) q))

pub lt-itself : (x : List ℕ) → is_before x x ≡ false
lt-itself x = ap is_lt (tied_itself nat_list_cmp_total x)

pub lt-irrefl : (x : List ℕ) → Lt x x → ⊥
lt-irrefl x p = let q = lt-itself x in cc

-- any two texts: one comes before the other, or they are one
pub lt-total : (x y : List ℕ) → Lt x y ⊎ (x ≡ y) ⊎ Lt y x
lt-total x y = by (slice_cmp nat_cmp x y) refl
  where
    by : (o : Ordering) → slice_cmp nat_cmp x y ≡ o → Lt x y ⊎ (x ≡ y) ⊎ Lt y x
    by Less is = inl (ap is_lt is)
    by Equal is = inr (inl (exact_bytes x y is))
    by Greater is = inr (inr (ap is_lt (nat_list_cmp_total.antisymm y x ∙ ap ordering_reverse is)))

pub greater-is : (x y : List ℕ) → slice_cmp nat_cmp x y ≡ Greater → Lt y x
greater-is x y is = ap is_lt (nat_list_cmp_total.antisymm y x ∙ ap ordering_reverse is)

pub lt-asym : (x y : List ℕ) → Lt x y → Lt y x → ⊥
lt-asym x y p q = lt-irrefl x (lt-trans x y x p q)

-- names that don't come after a text are those before the next one
pub before-next : (h x : List ℕ) → is_before x (h ++ 0 ∷ []) ≡ not (is_before h x)
before-next [] [] = refl
before-next [] (y ∷ []) = grind (arith, nat_tests)
before-next [] (y ∷ z ∷ ys) = grind (arith, nat_tests)
before-next (a ∷ ls) [] = refl
before-next (a ∷ ls) (y ∷ ys) = let rest = before-next ls ys in grind (arith, nat_tests, rest)

-- a plain name that comes after a text comes after the next one
pub after-next : (l x : List ℕ) → IsPlain x → is_before (l ++ 0 ∷ []) x ≡ is_before l x
after-next [] [] plain = refl
after-next [] (y ∷ ys) plain = let some = plain.0 in grind (arith, nat_tests, some)
after-next (a ∷ ls) [] plain = refl
after-next (a ∷ ls) (y ∷ ys) plain = let rest = after-next ls ys plain.2 in grind (arith, nat_tests, rest)

-- ---- texts that begin with another

abbrev pub Begins : List ℕ → List ℕ → Type 0
Begins x s = (z : List ℕ) × (x ≡ s ++ z)

pub begins-itself : (s z : List ℕ) → is_before (s ++ z) s ≡ false
begins-itself [] [] = refl
begins-itself [] (z ∷ zs) = refl
begins-itself (a ∷ ls) z = let rest = begins-itself ls z in grind (arith, nat_tests, rest)

-- what begins with a text doesn't come before it
pub begins-not-before : (x s : List ℕ) → Begins x s → is_before x s ≡ false
begins-not-before x s b = ap (λ (t : List ℕ). is_before t s) b.1 ∙ begins-itself s b.0

plain-below : (z : List ℕ) → IsPlain z → Lt z (255 ∷ [])
plain-below [] plain = refl
plain-below (b ∷ bs) plain = let less = plain.1 in grind (arith, nat_tests, less)

plain-rest : (s z : List ℕ) → IsPlain (s ++ z) → IsPlain z
plain-rest [] z plain = plain
plain-rest (a ∷ ls) z plain = plain-rest ls z plain.2

pub plain-front : (s z : List ℕ) → IsPlain (s ++ z) → IsPlain s
plain-front [] z plain = tt
plain-front (a ∷ ls) z plain = (plain.0, plain.1, plain-front ls z plain.2)

same-front : (s x y : List ℕ) → is_before (s ++ x) (s ++ y) ≡ is_before x y
same-front [] x y = refl
same-front (a ∷ ls) x y = let rest = same-front ls x y in grind (arith, nat_tests, rest)

-- a plain name that begins with a text comes before the end of all of these
pub begins-before-end : (x s : List ℕ) → IsPlain x → Begins x s → Lt x (s ++ 255 ∷ [])
begins-before-end x s plain b =
    let p : IsPlain (s ++ b.0) = subst IsPlain b.1 plain in
    ap (λ (t : List ℕ). is_before t (s ++ 255 ∷ [])) b.1 ∙ same-front s b.0 (255 ∷ []) ∙ plain-below b.0 (plain-rest s b.0 p)

-- whether it begins so; what comes after a text and doesn't begin with it comes after all that do
pub begins-or : (x s : List ℕ) → Begins x s ⊎ (Lt x s ⊎ ((z : List ℕ) → Lt (s ++ z) x))
begins-or x [] = inl (x, refl)
begins-or [] (a ∷ ls) = inr (inl refl)
begins-or (y ∷ ys) (a ∷ ls) = by (nat_cmp y a) refl (begins-or ys ls)
  where
    by : (o : Ordering) → nat_cmp y a ≡ o → Begins ys ls ⊎ (Lt ys ls ⊎ ((z : List ℕ) → Lt (ls ++ z) ys))
        → Begins (y ∷ ys) (a ∷ ls) ⊎ (Lt (y ∷ ys) (a ∷ ls) ⊎ ((z : List ℕ) → Lt ((a ∷ ls) ++ z) (y ∷ ys)))
    by Less is rest = inr (inl (rw is refl))
    by Greater is rest = inr (inr (λ z. grind (arith, nat_tests, is)))
    by Equal is (inl b) = let same : y ≡ a = grind (arith, nat_tests, is) in inl (b.0, ap (λ (t : ℕ). t ∷ ys) same ∙ ap (λ (t : List ℕ). a ∷ t) b.1)
    by Equal is (inr (inl less)) = inr (inl (rw is less))
    by Equal is (inr (inr more)) = inr (inr (λ z. let m = more z in grind (arith, nat_tests, is, m)))
