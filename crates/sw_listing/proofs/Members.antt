-- Members of lists, and lists in order.
use Rattle.std.proofs.Common.{◌≡◌, List, [], ◌∷◌, ◌++◌, length, map, take, reverse, refl, sym, ◌∙◌, ap}
use Rattle.std.proofs.Common.{subst, ◌⊎◌, inl, inr}
use Rattle.std.specs.BTreeMap.{insert_entry}
use Rattle.std.specs.Cmp.{IsTotalOrder}
use Rattle.std.specs.List.{AllByRecursion}
use Rattle.std.specs.List.Sorted.{IsStrictlySortedBy}
use Rattle.std.specs.Map.{keys_of, values_of}
use Rattle.std.specs.Ordering.{flip_args, match_ordering, ordering_reverse}
use Rattle.std.specs.declared.cmp.Ordering.{Ordering}
use Rattle.std.specs.declared.cmp.Ordering.TheVariants.{Less, Equal, Greater}
use Rattle.std.proofs.lemmas.Cmp.{tied_itself}
use Rattle.std.proofs.lemmas.List.{reverse-append}

module _ {X : Type 0} where
  -- x is an element
  abbrev pub In : X → List X → Type 0
  In x [] = ⊥
  In x (y ∷ ys) = (y ≡ x) ⊎ In x ys

  pub in-left : (x : X) (xs ys : List X) → In x xs → In x (xs ++ ys)
  in-left x [] ys is = absurd is
  in-left x (z ∷ zs) ys (inl here) = inl here
  in-left x (z ∷ zs) ys (inr there) = inr (in-left x zs ys there)

  pub in-right : (x : X) (xs ys : List X) → In x ys → In x (xs ++ ys)
  in-right x [] ys is = is
  in-right x (z ∷ zs) ys is = inr (in-right x zs ys is)

  pub in-append : (x : X) (xs ys : List X) → In x (xs ++ ys) → In x xs ⊎ In x ys
  in-append x [] ys is = inr is
  in-append x (z ∷ zs) ys (inl here) = inl (inl here)
  in-append x (z ∷ zs) ys (inr there) = elim (in-append x zs ys there) [ inl left ↦ inl (inr left) | inr right ↦ inr right ]

  pub in-reverse : (x : X) (xs : List X) → In x xs → In x (reverse xs)
  in-reverse x [] is = is
  in-reverse x (z ∷ zs) (inl here) = subst (λ (t : List X). In x t) (sym (reverse-append (z ∷ []) zs)) (in-right x (reverse zs) (z ∷ []) (inl here))
  in-reverse x (z ∷ zs) (inr there) = subst (λ (t : List X). In x t) (sym (reverse-append (z ∷ []) zs)) (in-left x (reverse zs) (z ∷ [])
      (in-reverse x zs there))

  pub in-reversed : (x : X) (xs : List X) → In x (reverse xs) → In x xs
  in-reversed x [] is = is
  in-reversed x (z ∷ zs) is =
      elim (in-append x (reverse zs) (z ∷ []) (subst (λ (t : List X). In x t) (reverse-append (z ∷ []) zs) is)) [
        | inl left ↦ inr (in-reversed x zs left)
        | inr right ↦ elim right [ inl here ↦ inl here | inr there ↦ absurd there ]
      ]

module _ {K : Type 0} (P : K → Type 0) where
  all-first : (xs ys : List K) → AllByRecursion P (xs ++ ys) → AllByRecursion P xs
  all-first [] ys all = tt
  all-first (x ∷ xs) ys all = (all.0, all-first xs ys all.1)

  pub all-in : (xs : List K) (x : K) → AllByRecursion P xs → In x xs → P x
  all-in [] x all is = absurd is
  all-in (y ∷ ys) x all (inl here) = subst P here all.0
  all-in (y ∷ ys) x all (inr there) = all-in ys x all.1 there

  pub all-of : (xs : List K) → ((x : K) → In x xs → P x) → AllByRecursion P xs
  all-of [] each = tt
  all-of (x ∷ xs) each = (each x (inl refl), all-of xs (λ y is. each y (inr is)))

module _ {K : Type 0} (R : K → K → Ordering) where
  all-push : (P : K → Type 0) (xs : List K) (y : K) → AllByRecursion P xs → P y → AllByRecursion P (xs ++ y ∷ [])
  all-push P [] y all one = (one, tt)
  all-push P (x ∷ xs) y all one = (all.0, all-push P xs y all.1 one)

  pub sorted-push : (xs : List K) (y : K) → IsStrictlySortedBy R xs → AllByRecursion (λ x. R x y ≡ Less) xs → IsStrictlySortedBy R (xs ++ y ∷ [])
  unfolding IsStrictlySortedBy
  sorted-push [] y sorted below = (tt, tt)
  sorted-push (x ∷ xs) y sorted below = (all-push (λ z. R x z ≡ Less) xs y sorted.0 below.0, sorted-push xs y sorted.1 below.1)

  pub sorted-front : (xs ys : List K) → IsStrictlySortedBy R (xs ++ ys) → IsStrictlySortedBy R xs
  unfolding IsStrictlySortedBy
  sorted-front [] ys sorted = tt
  sorted-front (x ∷ xs) ys sorted = (all-front xs sorted.0, sorted-front xs ys sorted.1)
    where
      all-front : (zs : List K) → AllByRecursion (λ z. R x z ≡ Less) (zs ++ ys) → AllByRecursion (λ z. R x z ≡ Less) zs
      all-front zs all = all-first (λ z. R x z ≡ Less) zs ys all

  pub sorted-back : (xs ys : List K) → IsStrictlySortedBy R (xs ++ ys) → IsStrictlySortedBy R ys
  unfolding IsStrictlySortedBy
  sorted-back [] ys sorted = sorted
  sorted-back (x ∷ xs) ys sorted = sorted-back xs ys sorted.1

  -- what stands before is below
  pub sorted-across : (xs ys : List K) → IsStrictlySortedBy R (xs ++ ys) → (a b : K) → In a xs → In b ys → R a b ≡ Less
  unfolding IsStrictlySortedBy
  sorted-across [] ys sorted a b is_a is_b = absurd is_a
  sorted-across (x ∷ xs) ys sorted a b (inl here) is_b =
      subst (λ (k : K). R k b ≡ Less) here (all-in (λ z. R x z ≡ Less) (xs ++ ys) b sorted.0 (in-right b xs ys is_b))
  sorted-across (x ∷ xs) ys sorted a b (inr there) is_b = sorted-across xs ys sorted.1 a b there is_b

module _ {K : Type 0} (R : K → K → Ordering) where
  pub sorted-reverse : (xs : List K) → IsStrictlySortedBy R xs → IsStrictlySortedBy (flip_args R) (reverse xs)
  unfolding IsStrictlySortedBy
  sorted-reverse [] sorted = tt
  sorted-reverse (x ∷ xs) sorted =
      subst (λ (t : List K). IsStrictlySortedBy (flip_args R) t) (sym (reverse-append (x ∷ []) xs))
      (sorted-push (flip_args R) (reverse xs) x (sorted-reverse xs sorted.1)
      (all-of (λ y. flip_args R y x ≡ Less) (reverse xs) (λ y is. all-in (λ z. R x z ≡ Less) xs y sorted.0 (in-reversed y xs is))))

-- what is below something isn't it, and isn't above it
module _ {K : Type 0} {R : K → K → Ordering} (o : IsTotalOrder R) where
  pub not-itself : (x : K) → R x x ≡ Less → ⊥
  not-itself x less = let tied : R x x ≡ Equal = tied_itself o x in cc

  pub not-both : (x y : K) → R x y ≡ Less → R y x ≡ Less → ⊥
  not-both x y up down = not-itself x (o.trans x y x up down)

-- two lists in order of their texts: the one is the beginning of the other, where each of the other's members is in it or above it
module _ {X K : Type 0} (text : X → K) {R : K → K → Ordering} (o : IsTotalOrder R) where
  second-out : (x z : X) (zs : List X) → IsStrictlySortedBy R (map text (x ∷ z ∷ zs)) → IsStrictlySortedBy R (map text (x ∷ zs))
  unfolding IsStrictlySortedBy
  second-out x z zs sorted = (sorted.0.1, sorted.1.1)

  sorted-above : (x : X) (xs : List X) → IsStrictlySortedBy R (map text (x ∷ xs)) → (y : X) → In y xs → R (text x) (text y) ≡ Less
  unfolding IsStrictlySortedBy
  sorted-above x [] sorted y is = absurd is
  sorted-above x (z ∷ zs) sorted y (inl here) = subst (λ (t : X). R (text x) (text t) ≡ Less) here sorted.0.0
  sorted-above x (z ∷ zs) sorted y (inr there) = sorted-above x zs (second-out x z zs sorted) y there

  tail-sorted : (x : X) (xs : List X) → IsStrictlySortedBy R (map text (x ∷ xs)) → IsStrictlySortedBy R (map text xs)
  unfolding IsStrictlySortedBy
  tail-sorted x xs sorted = sorted.1

  pub front-of : (xs ts : List X) → IsStrictlySortedBy R (map text xs) → IsStrictlySortedBy R (map text ts) → ((x : X) → In x xs → In x ts) →
      ((x : X) → In x ts → In x xs ⊎ ((a : X) → In a xs → R (text a) (text x) ≡ Less)) → take (length xs) ts ≡ xs
  front-of [] ts sorted_a sorted_t inside cover = refl
  front-of (a ∷ xs) [] sorted_a sorted_t inside cover = absurd (inside a (inl refl))
  front-of (a ∷ xs) (t ∷ ts) sorted_a sorted_t inside cover =
      let same : t ≡ a = first (inside a (inl refl)) (cover t (inl refl)) in
      let rest : take (length xs) ts ≡ xs = front-of xs ts (tail-sorted a xs sorted_a) (tail-sorted t ts sorted_t)
      (λ x is. elim (inside x (inr is)) [
        | inl here ↦ absurd (not-itself o (text a) (subst (λ (y : X). R (text a) (text y) ≡ Less) (sym here ∙ same) (sorted-above a xs sorted_a x is)))
        | inr there ↦ there
      ])
      (λ x is. elim (cover x (inr is)) [
        | inl within ↦ elim within [
          | inl here ↦ absurd (not-itself o (text t) (subst (λ (y : X). R (text t) (text y) ≡ Less) (sym here ∙ sym same) (sorted-above t ts sorted_t x is)))
          | inr there ↦ inl there
        ]
        | inr above ↦ inr (λ b is_b. above b (inr is_b))
      ]) in
      ap (λ (x : X). x ∷ take (length xs) ts) same ∙ ap (λ (l : List X). a ∷ l) rest
    where
      first : In a (t ∷ ts) → In t (a ∷ xs) ⊎ ((b : X) → In b (a ∷ xs) → R (text b) (text t) ≡ Less) → t ≡ a
      first (inl here) c = here
      first (inr there) (inl (inl here)) = sym here
      first (inr there) (inl (inr within)) =
          absurd (not-both o (text t) (text a) (sorted-above t ts sorted_t a there) (sorted-above a xs sorted_a t within))
      first (inr there) (inr above) = absurd (not-both o (text t) (text a) (sorted-above t ts sorted_t a there) (above a (inl refl)))

-- what is below a key is below all above it
module _ {K : Type 0} {R : K → K → Ordering} (o : IsTotalOrder R) where
  weaker : (k l : K) (es : List K) → R k l ≡ Less → AllByRecursion (λ y. R l y ≡ Less) es → AllByRecursion (λ y. R k y ≡ Less) es
  weaker k l [] less all = tt
  weaker k l (e ∷ es) less all = (o.trans k l e less all.0, weaker k l es less all.1)

-- ---- entries that are put in their places by a key
module _ {K X : Type 0} {R : K → K → Ordering} (o : IsTotalOrder R) where
  all-keys : (P : K → Type 0) (es : List (K × X)) (k : K) (v : X) → AllByRecursion P (keys_of es) → P k → AllByRecursion P (keys_of (insert_entry R es k v))
  all-keys P [] k v all one = (one, tt)
  all-keys P (e ∷ es) k v all one = at (R k e.0) (all-keys P es k v all.1 one)
    where
      at : (c : Ordering) → AllByRecursion P (keys_of (insert_entry R es k v)) →
          AllByRecursion P (keys_of (match_ordering c ((k, v) ∷ e ∷ es) ((e.0, v) ∷ es) (e ∷ insert_entry R es k v)))
      at Less rest = (one, all)
      at Equal rest = all
      at Greater rest = (all.0, rest)

  pub sorted-insert : (es : List (K × X)) (k : K) (v : X) → IsStrictlySortedBy R (keys_of es) → IsStrictlySortedBy R (keys_of (insert_entry R es k v))
  unfolding IsStrictlySortedBy
  sorted-insert [] k v sorted = (tt, tt)
  sorted-insert (e ∷ es) k v sorted = at (R k e.0) refl (sorted-insert es k v sorted.1)
    where
      at : (c : Ordering) → R k e.0 ≡ c → IsStrictlySortedBy R (keys_of (insert_entry R es k v)) →
          IsStrictlySortedBy R (keys_of (match_ordering c ((k, v) ∷ e ∷ es) ((e.0, v) ∷ es) (e ∷ insert_entry R es k v)))
      at Less is rest = ((is, weaker o k e.0 (keys_of es) is sorted.0), sorted)
      at Equal is rest = sorted
      at Greater is rest = (all-keys (λ y. R e.0 y ≡ Less) es k v sorted.0 (o.antisymm e.0 k ∙ ap ordering_reverse is), rest)

  pub inserted : (es : List (K × X)) (k : K) (v x : X) → In x (values_of (insert_entry R es k v)) → (v ≡ x) ⊎ In x (values_of es)
  inserted [] k v x (inl here) = inl here
  inserted [] k v x (inr there) = absurd there
  inserted (e ∷ es) k v x is = at (R k e.0) is (λ h. inserted es k v x h)
    where
      at : (c : Ordering) → In x (values_of (match_ordering c ((k, v) ∷ e ∷ es) ((e.0, v) ∷ es) (e ∷ insert_entry R es k v))) →
          (In x (values_of (insert_entry R es k v)) → (v ≡ x) ⊎ In x (values_of es)) → (v ≡ x) ⊎ In x (values_of (e ∷ es))
      at Less (inl here) rest = inl here
      at Less (inr there) rest = inr there
      at Equal (inl here) rest = inl here
      at Equal (inr there) rest = inr (inr there)
      at Greater (inl here) rest = inr (inl here)
      at Greater (inr there) rest = elim (rest there) [ inl new ↦ inl new | inr old ↦ inr (inr old) ]

  pub insert-there : (es : List (K × X)) (k : K) (v : X) → In v (values_of (insert_entry R es k v))
  insert-there [] k v = inl refl
  insert-there (e ∷ es) k v = at (R k e.0) (insert-there es k v)
    where
      at : (c : Ordering) → In v (values_of (insert_entry R es k v)) →
          In v (values_of (match_ordering c ((k, v) ∷ e ∷ es) ((e.0, v) ∷ es) (e ∷ insert_entry R es k v)))
      at Less rest = inl refl
      at Equal rest = inl refl
      at Greater rest = inr rest

  -- what stood there stands there still, or has the key of what was put in
  pub insert-keeps : (key : X → K) (es : List (K × X)) (k : K) (v x : X) → AllByRecursion (λ e. e.0 ≡ key e.1) es → In x (values_of es) →
      In x (values_of (insert_entry R es k v)) ⊎ (R k (key x) ≡ Equal)
  insert-keeps key [] k v x keyed is = absurd is
  insert-keeps key (e ∷ es) k v x keyed is = at (R k e.0) refl is (λ h. insert-keeps key es k v x keyed.1 h)
    where
      at : (c : Ordering) → R k e.0 ≡ c → In x (values_of (e ∷ es)) → (In x (values_of es) → In x (values_of (insert_entry R es k v)) ⊎ (R k (key x) ≡ Equal)) →
          In x (values_of (match_ordering c ((k, v) ∷ e ∷ es) ((e.0, v) ∷ es) (e ∷ insert_entry R es k v))) ⊎ (R k (key x) ≡ Equal)
      at Less at_k is rest = inl (inr is)
      at Equal at_k (inl here) rest = inr (ap (λ (y : X). R k (key y)) (sym here) ∙ ap (λ (j : K). R k j) (sym keyed.0) ∙ at_k)
      at Equal at_k (inr there) rest = inl (inr there)
      at Greater at_k (inl here) rest = inl (inl here)
      at Greater at_k (inr there) rest = elim (rest there) [ inl still ↦ inl (inr still) | inr same ↦ inr same ]

  pub insert-keyed : (key : X → K) → ((a b : K) → R a b ≡ Equal → a ≡ b) → (es : List (K × X)) (v : X) → AllByRecursion (λ e. e.0 ≡ key e.1) es →
      AllByRecursion (λ e. e.0 ≡ key e.1) (insert_entry R es (key v) v)
  insert-keyed key exact [] v keyed = (refl, tt)
  insert-keyed key exact (e ∷ es) v keyed = at (R (key v) e.0) refl (insert-keyed key exact es v keyed.1)
    where
      at : (c : Ordering) → R (key v) e.0 ≡ c → AllByRecursion (λ d. d.0 ≡ key d.1) (insert_entry R es (key v) v) →
          AllByRecursion (λ d. d.0 ≡ key d.1) (match_ordering c ((key v, v) ∷ e ∷ es) ((e.0, v) ∷ es) (e ∷ insert_entry R es (key v) v))
      at Less is rest = (refl, keyed)
      at Equal is rest = (sym (exact (key v) e.0 is), keyed.1)
      at Greater is rest = (keyed.0, rest)
