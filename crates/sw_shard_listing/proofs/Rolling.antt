-- What names are rolled up to.
use Rattle.std.proofs.Common.{◌≡◌, ℕ, ◌+◌, zero, suc, Bool, true, false, cond, List, [], ◌∷◌, ◌++◌, length, take, drop, Option, None, Some, refl, sym, ◌∙◌}
use Rattle.std.proofs.Common.{ap, subst, arith}
use Rattle.std.specs.List.{position, position_or_len}
use Rattle.std.specs.Option.{option_map}
use Rattle.std.specs.Prelude.{nat_lt, ◌==◌}
use Rattle.std.proofs.lemmas.Bool.Decides.{nat_tests}
use Rattle.sw_listing.specs.Asking.{rolled_text}
use Rattle.sw_shard_listing.proofs.Order.{Begins}

-- up to and with the first delimiter
abbrev cut : ℕ → List ℕ → Option (List ℕ)
cut d [] = None
cut d (y ∷ ys) = cond (y == d) (Some (y ∷ [])) (option_map (λ (t : List ℕ). y ∷ t) (cut d ys))

-- the same, behind so many bytes
abbrev roll : ℕ → ℕ → List ℕ → Option (List ℕ)
roll d zero x = cut d x
roll d (suc b) [] = None
roll d (suc b) (y ∷ ys) = option_map (λ (t : List ℕ). y ∷ t) (roll d b ys)

place-cons : (d y : ℕ) (ys : List ℕ) → position (λ c. c == d) (y ∷ ys) ≡ cond (y == d) (Some 0) (option_map (λ (k : ℕ). k + 1) (position (λ c. c == d) ys))
place-cons d y ys = by (y == d) refl (nat_lt (position_or_len (λ c. c == d) ys) (length ys)) refl
  where
    p : ℕ → Bool
    p c = c == d

    by : (t : Bool) → (y == d) ≡ t → (u : Bool) → nat_lt (position_or_len (λ c. c == d) ys) (length ys) ≡ u
        → position (λ c. c == d) (y ∷ ys) ≡ cond t (Some 0) (option_map (λ (k : ℕ). k + 1) (position (λ c. c == d) ys))
    by true is u less = rw is (grind (arith, nat_tests))
    by false is true less = rw (is, less) (grind (arith, nat_tests, less))
    by false is false less = rw (is, less) (grind (arith, nat_tests, less))

-- what is taken of a text, by the place of the delimiter behind so many bytes
abbrev taken : ℕ → List ℕ → Option ℕ → Option (List ℕ)
taken b x o = option_map (λ (size : ℕ). take size x) (option_map (λ (place : ℕ). b + place + 1) o)

taken-cons : (b y : ℕ) (ys : List ℕ) (o : Option ℕ) → taken (suc b) (y ∷ ys) o ≡ option_map (λ (t : List ℕ). y ∷ t) (taken b ys o)
taken-cons b y ys None = refl
taken-cons b y ys (Some k) = ap (λ (n : ℕ). Some (take n (y ∷ ys))) (suc-first b k)
  where
    suc-first : (b k : ℕ) → suc b + k + 1 ≡ suc (b + k + 1)
    suc-first b k = omega arith

taken-next : (y : ℕ) (ys : List ℕ) (o : Option ℕ) → taken 0 (y ∷ ys) (option_map (λ (k : ℕ). k + 1) o) ≡ option_map (λ (t : List ℕ). y ∷ t) (taken 0 ys o)
taken-next y ys None = refl
taken-next y ys (Some k) = ap (λ (n : ℕ). Some (take n (y ∷ ys))) (suc-first k)
  where
    suc-first : (k : ℕ) → 0 + (k + 1) + 1 ≡ suc (0 + k + 1)
    suc-first k = omega arith

cut-is : (d : ℕ) (x : List ℕ) → taken 0 x (position (λ c. c == d) x) ≡ cut d x
cut-is d [] = refl
cut-is d (y ∷ ys) = ap (taken 0 (y ∷ ys)) (place-cons d y ys) ∙ by (y == d) (cut-is d ys)
  where
    by : (t : Bool) → taken 0 ys (position (λ c. c == d) ys) ≡ cut d ys
        → taken 0 (y ∷ ys) (cond t (Some 0) (option_map (λ (k : ℕ). k + 1) (position (λ c. c == d) ys)))
        ≡ cond t (Some (y ∷ [])) (option_map (λ (t : List ℕ). y ∷ t) (cut d ys))
    by true rest = refl
    by false rest = taken-next y ys (position (λ c. c == d) ys) ∙ ap (λ (o : Option (List ℕ)). option_map (λ (t : List ℕ). y ∷ t) o) rest

roll-is : (d b : ℕ) (x : List ℕ) → rolled_text (Some d) b x ≡ roll d b x
roll-is d zero x = cut-is d x
roll-is d (suc b) [] = refl
roll-is d (suc b) (y ∷ ys) = taken-cons b y ys (position (λ c. c == d) (drop b ys))
    ∙ ap (λ (o : Option (List ℕ)). option_map (λ (t : List ℕ). y ∷ t) o) (roll-is d b ys)

-- a text is what some text is rolled up to
abbrev IsCons : ℕ → Option (List ℕ) → List ℕ → Type 0
IsCons y o t = (u : List ℕ) × (o ≡ Some u) × (t ≡ y ∷ u)

cons-some : (y : ℕ) (o : Option (List ℕ)) (t : List ℕ) → option_map (λ (t : List ℕ). y ∷ t) o ≡ Some t → IsCons y o t
cons-some y None t h = cc
cons-some y (Some u) t h = (u, refl, sym (some-is (y ∷ u) t h))
  where
    some-is : (a c : List ℕ) → Some a ≡ Some c → a ≡ c
    some-is a c h = cc

-- whatever follows it is rolled up to it
cut-again : (d : ℕ) (x t z : List ℕ) → cut d x ≡ Some t → cut d (t ++ z) ≡ Some t
cut-again d [] t z h = cc
cut-again d (y ∷ ys) t z h = by (cut-again d ys) (y == d) refl h
  where
    by : ((t z : List ℕ) → cut d ys ≡ Some t → cut d (t ++ z) ≡ Some t) → (b : Bool) → (y == d) ≡ b
        → cond b (Some (y ∷ [])) (option_map (λ (t : List ℕ). y ∷ t) (cut d ys)) ≡ Some t → cut d (t ++ z) ≡ Some t
    by again true is h = let same : y ∷ [] ≡ t = cc in subst (λ (u : List ℕ). cut d (u ++ z) ≡ Some u) same (rw is refl)
    by again false is h =
        let parts = cons-some y (cut d ys) t h in
        subst (λ (u : List ℕ). cut d (u ++ z) ≡ Some u) (sym parts.2) (rw (is, again parts.0 z parts.1) refl)

roll-again : (d b : ℕ) (x t z : List ℕ) → roll d b x ≡ Some t → roll d b (t ++ z) ≡ Some t
roll-again d zero x t z h = cut-again d x t z h
roll-again d (suc b) [] t z h = cc
roll-again d (suc b) (y ∷ ys) t z h =
    let parts = cons-some y (roll d b ys) t h in
    subst (λ (u : List ℕ). roll d (suc b) (u ++ z) ≡ Some u) (sym parts.2) (rw (roll-again d b ys parts.0 z parts.1) refl)

cut-begins : (d : ℕ) (x t : List ℕ) → cut d x ≡ Some t → Begins x t
cut-begins d [] t h = cc
cut-begins d (y ∷ ys) t h = by (cut-begins d ys) (y == d) h
  where
    by : ((t : List ℕ) → cut d ys ≡ Some t → Begins ys t) → (b : Bool) → cond b (Some (y ∷ [])) (option_map (λ (t : List ℕ). y ∷ t) (cut d ys)) ≡ Some t
        → Begins (y ∷ ys) t
    by rest true h = let same : y ∷ [] ≡ t = cc in (ys, ap (λ (u : List ℕ). u ++ ys) same)
    by begins false h =
        let parts = cons-some y (cut d ys) t h in
        let rest = begins parts.0 parts.1 in
        (rest.0, ap (λ (u : List ℕ). y ∷ u) rest.1 ∙ ap (λ (u : List ℕ). u ++ rest.0) (sym parts.2))

roll-begins : (d b : ℕ) (x t : List ℕ) → roll d b x ≡ Some t → Begins x t
roll-begins d zero x t h = cut-begins d x t h
roll-begins d (suc b) [] t h = cc
roll-begins d (suc b) (y ∷ ys) t h =
    let parts = cons-some y (roll d b ys) t h in
    let rest = roll-begins d b ys parts.0 parts.1 in
    (rest.0, ap (λ (u : List ℕ). y ∷ u) rest.1 ∙ ap (λ (u : List ℕ). u ++ rest.0) (sym parts.2))

cut-some : (d : ℕ) (x : List ℕ) → cut d x ≡ Some [] → ⊥
cut-some d [] h = cc
cut-some d (y ∷ ys) h = by (y == d) h
  where
    by : (b : Bool) → cond b (Some (y ∷ [])) (option_map (λ (t : List ℕ). y ∷ t) (cut d ys)) ≡ Some [] → ⊥
    by true h = cc
    by false h = let parts = cons-some y (cut d ys) [] h in let never = parts.2 in cc

roll-some : (d b : ℕ) (x : List ℕ) → roll d b x ≡ Some [] → ⊥
roll-some d zero x h = cut-some d x h
roll-some d (suc b) [] h = cc
roll-some d (suc b) (y ∷ ys) h = let parts = cons-some y (roll d b ys) [] h in let never = parts.2 in cc

-- ---- what is promised of `rolled_text`

module _ (o : Option ℕ) (b : ℕ) where
  pub rolled-begins : (x t : List ℕ) → rolled_text o b x ≡ Some t → Begins x t
  rolled-begins x t h = by o h
    where
      by : (o : Option ℕ) → rolled_text o b x ≡ Some t → Begins x t
      by None h = cc
      by (Some d) h = roll-begins d b x t (sym (roll-is d b x) ∙ h)

  pub rolled-again : (x t z : List ℕ) → rolled_text o b x ≡ Some t → rolled_text o b (t ++ z) ≡ Some t
  rolled-again x t z h = by o h
    where
      by : (o : Option ℕ) → rolled_text o b x ≡ Some t → rolled_text o b (t ++ z) ≡ Some t
      by None h = cc
      by (Some d) h = roll-is d b (t ++ z) ∙ roll-again d b x t z (sym (roll-is d b x) ∙ h)

  -- it isn't empty
  pub rolled-some : (x : List ℕ) → rolled_text o b x ≡ Some [] → ⊥
  rolled-some x h = by o h
    where
      by : (o : Option ℕ) → rolled_text o b x ≡ Some [] → ⊥
      by None h = cc
      by (Some d) h = roll-some d b x (sym (roll-is d b x) ∙ h)
