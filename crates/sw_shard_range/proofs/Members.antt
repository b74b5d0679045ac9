-- Members of lists of names in byte order.
use Rattle.std.proofs.Common.{◌≡◌, ◌⊎◌, inl, inr, List, [], ◌∷◌, take, zero, suc, ℕ, refl, sym, ◌∙◌, ap, subst}
use Rattle.std.specs.Cmp.{IsTotalOrder}
use Rattle.std.specs.List.{AllByRecursion}
use Rattle.std.specs.List.Sorted.{IsStrictlySortedBy}
use Rattle.std.specs.declared.cmp.Ordering.{Ordering}
use Rattle.std.specs.declared.cmp.Ordering.TheVariants.{Less, Equal}
use Rattle.std.proofs.lemmas.Cmp.{tied_itself}

module _ {X : Type 0} where
  -- x is an element
  abbrev pub In : X → List X → Type 0
  In x [] = ⊥
  In x (y ∷ ys) = (y ≡ x) ⊎ In x ys

module _ {K : Type 0} (P : K → Type 0) where
  pub all-in : (xs : List K) (x : K) → AllByRecursion P xs → In x xs → P x
  all-in [] x all is = absurd is
  all-in (y ∷ ys) x all (inl here) = subst P here all.0
  all-in (y ∷ ys) x all (inr there) = all-in ys x all.1 there

  pub all-take : (n : ℕ) (xs : List K) → AllByRecursion P xs → AllByRecursion P (take n xs)
  all-take zero xs all = tt
  all-take (suc n) [] all = tt
  all-take (suc n) (x ∷ xs) all = (all.0, all-take n xs all.1)

module _ {K : Type 0} {R : K → K → Ordering} (o : IsTotalOrder R) where
  pub not-itself : (x : K) → R x x ≡ Less → ⊥
  not-itself x less = let tied : R x x ≡ Equal = tied_itself o x in cc

  not-both : (x y : K) → R x y ≡ Less → R y x ≡ Less → ⊥
  not-both x y up down = not-itself x (o.trans x y x up down)

  -- lists in order that have the same elements are one
  pub same-sorted : (xs ys : List K) → IsStrictlySortedBy R xs → IsStrictlySortedBy R ys → ((x : K) → In x xs → In x ys) → ((x : K) → In x ys → In x xs) →
      xs ≡ ys
  unfolding IsStrictlySortedBy
  same-sorted [] [] sorted_x sorted_y into from = refl
  same-sorted [] (y ∷ ys) sorted_x sorted_y into from = absurd (from y (inl refl))
  same-sorted (x ∷ xs) [] sorted_x sorted_y into from = absurd (into x (inl refl))
  same-sorted (x ∷ xs) (y ∷ ys) sorted_x sorted_y into from =
      let same : x ≡ y = first (into x (inl refl)) (from y (inl refl)) in
      let rest : xs ≡ ys = same-sorted xs ys sorted_x.1 sorted_y.1
      (λ z is. elim (into z (inr is)) [
        | inl here ↦ absurd (not-itself z (subst (λ (k : K). R k z ≡ Less) (same ∙ here) (all-in (λ k. R x k ≡ Less) xs z sorted_x.0 is)))
        | inr there ↦ there
      ])
      (λ z is. elim (from z (inr is)) [
        | inl here ↦ absurd (not-itself z (subst (λ (k : K). R k z ≡ Less) (sym same ∙ here) (all-in (λ k. R y k ≡ Less) ys z sorted_y.0 is)))
        | inr there ↦ there
      ]) in
      ap (λ (k : K). k ∷ xs) same ∙ ap (λ (ks : List K). y ∷ ks) rest
    where
      first : In x (y ∷ ys) → In y (x ∷ xs) → x ≡ y
      first (inl here) b = sym here
      first (inr there) (inl here) = here
      first (inr there) (inr back) =
          absurd (not-both x y (all-in (λ k. R x k ≡ Less) xs y sorted_x.0 back) (all-in (λ k. R y k ≡ Less) ys x sorted_y.0 there))

module _ {K : Type 0} (R : K → K → Ordering) where
  pub sorted-take : (n : ℕ) (xs : List K) → IsStrictlySortedBy R xs → IsStrictlySortedBy R (take n xs)
  unfolding IsStrictlySortedBy
  sorted-take zero xs sorted = tt
  sorted-take (suc n) [] sorted = tt
  sorted-take (suc n) (x ∷ xs) sorted = (all-take (λ y. R x y ≡ Less) n xs sorted.0, sorted-take n xs sorted.1)
