-- Lists, and lists in order.
use Rattle.std.proofs.Common.{◌≡◌, ℕ, zero, suc, ◌<◌, inl, inr, ◌⊎◌, refl, sym, ◌∙◌, ap, subst, Bool, true, false, List, [], ◌∷◌, ◌++◌, map}
use Rattle.std.proofs.Common.{Option, None, Some, arith, if◌then◌else◌, ◌+◌, ◌≤◌, drop, get_or, length, take}
use Rattle.std.proofs.lemmas.Cmp.{tied_itself}
use Rattle.std.proofs.lemmas.List.Elements.{All-contains, All-from_recursion, All-head, All-tail, Contains-append_cases, Contains-append_right}
use Rattle.std.proofs.lemmas.List.Elements.{recursion_from_All}
use Rattle.std.specs.Cmp.{IsTotalOrder}
use Rattle.std.specs.List.{All, AllByRecursion, Contains, cons_option, filter, filter_map}
use Rattle.std.specs.List.Sorted.{IsStrictlySortedBy}
use Rattle.std.specs.declared.cmp.Ordering.{Ordering}
use Rattle.std.specs.declared.cmp.Ordering.TheVariants.{Less}

-- ---- elements

module _ {X : Type 0} where
  pub at_front : (x : X) (xs : List X) → Contains (x ∷ xs) x
  at_front x xs = (0, omega arith, refl)

  pub behind : (x : X) (xs : List X) (y : X) → Contains xs y → Contains (x ∷ xs) y
  behind x xs y is = Contains-append_right (x ∷ []) xs y is

  pub front_or_behind : (x : X) (xs : List X) (y : X) → Contains (x ∷ xs) y → (x ≡ y) ⊎ Contains xs y
  front_or_behind x xs y (zero, inside, here) = inl here
  front_or_behind x xs y (suc k, inside, here) = inr (k, omega arith, here)

  pub none_of : (x : X) → Contains [] x → ⊥
  none_of x is = let lt = is.1 in omega arith

  pub in_filter : (p : X → Bool) (xs : List X) (x : X) → Contains xs x → p x ≡ true → Contains (filter p xs) x
  in_filter p [] x is e = absurd (none_of x is)
  in_filter p (y ∷ ys) x is e = by (p y) refl (front_or_behind y ys x is) (λ later. in_filter p ys x later e)
    where
      by : (b : Bool) → p y ≡ b → (y ≡ x) ⊎ Contains ys x → (Contains ys x → Contains (filter p ys) x) → Contains (filter p (y ∷ ys)) x
      by true k (inl here) more = rw k (subst (λ (z : X). Contains (y ∷ filter p ys) z) here (at_front y (filter p ys)))
      by true k (inr later) more = rw k (behind y (filter p ys) x (more later))
      by false k (inl here) more = let clash = sym k ∙ (ap p here ∙ e) in cc
      by false k (inr later) more = rw k (more later)

  pub from_filter : (p : X → Bool) (xs : List X) (x : X) → Contains (filter p xs) x → Contains xs x × (p x ≡ true)
  from_filter p [] x = λ is. absurd (none_of x is)
  from_filter p (y ∷ ys) x = by (p y) refl (from_filter p ys x)
    where
      by : (b : Bool) → p y ≡ b → (Contains (filter p ys) x → Contains ys x × (p x ≡ true))
          → Contains (if b then y ∷ filter p ys else filter p ys) x → Contains (y ∷ ys) x × (p x ≡ true)
      by true k more is = elim (front_or_behind y (filter p ys) x is) [
        | inl here ↦ (subst (λ (z : X). Contains (y ∷ ys) z) here (at_front y ys), ap p (sym here) ∙ k)
        | inr later ↦ (behind y ys x (more later).0, (more later).1)
      ]
      by false k more is = (behind y ys x (more is).0, (more is).1)

module _ {X Y : Type 0} where
  pub in_map : (f : X → Y) (xs : List X) (x : X) → Contains xs x → Contains (map f xs) (f x)
  in_map f [] x is = absurd (none_of x is)
  in_map f (y ∷ ys) x is = elim (front_or_behind y ys x is) [
    | inl here ↦ subst (λ (z : Y). Contains (f y ∷ map f ys) z) (ap f here) (at_front (f y) (map f ys))
    | inr later ↦ behind (f y) (map f ys) (f x) (in_map f ys x later)
  ]

  pub from_map : (f : X → Y) (xs : List X) (y : Y) → Contains (map f xs) y → (x : X) × Contains xs x × (f x ≡ y)
  from_map f [] y is = absurd (none_of y is)
  from_map f (x ∷ xs) y is = elim (front_or_behind (f x) (map f xs) y is) [
    | inl here ↦ (x, at_front x xs, here)
    | inr later ↦ let more = from_map f xs y later in (more.0, behind x xs more.0 more.1, more.2)
  ]

  module _ (h : X → Option Y) where
    front_option : (o : Option Y) (ys : List Y) (y : Y) → o ≡ Some y → Contains (cons_option o ys) y
    front_option o ys y e = rw e (at_front y ys)

    later_option : (o : Option Y) (ys : List Y) (y : Y) → Contains ys y → Contains (cons_option o ys) y
    later_option None ys y is = is
    later_option (Some z) ys y is = behind z ys y is

    split_option : (o : Option Y) (ys : List Y) (y : Y) → Contains (cons_option o ys) y → (o ≡ Some y) ⊎ Contains ys y
    split_option None ys y is = inr is
    split_option (Some z) ys y is = elim (front_or_behind z ys y is) [ inl e ↦ inl (ap (λ (w : Y). Some w) e) | inr later ↦ inr later ]

    pub in_filter_map : (xs : List X) (x : X) (y : Y) → Contains xs x → h x ≡ Some y → Contains (filter_map h xs) y
    in_filter_map [] x y is e = absurd (none_of x is)
    in_filter_map (z ∷ zs) x y is e = elim (front_or_behind z zs x is) [
      | inl here ↦ front_option (h z) (filter_map h zs) y (ap h here ∙ e)
      | inr later ↦ later_option (h z) (filter_map h zs) y (in_filter_map zs x y later e)
    ]

    pub from_filter_map : (xs : List X) (y : Y) → Contains (filter_map h xs) y → (x : X) × Contains xs x × (h x ≡ Some y)
    from_filter_map [] y is = absurd (none_of y is)
    from_filter_map (x ∷ xs) y is = elim (split_option (h x) (filter_map h xs) y is) [
      | inl e ↦ (x, at_front x xs, e)
      | inr later ↦ let rest = from_filter_map xs y later in (rest.0, behind x xs rest.0 rest.1, rest.2)
    ]

-- the list from a place on
pub drop-more : {X : Type 0} (xs : List X) (i : ℕ) (x : X) → i < length xs → x ≡ get_or xs i x → drop i xs ≡ x ∷ drop (i + 1) xs
drop-more [] i x inside is = absurd (omega arith)
drop-more (y ∷ ys) zero x inside is = ap (λ z. z ∷ ys) (sym is)
drop-more {X} (y ∷ ys) (suc i) x inside is =
    drop-more ys i x (omega arith) is
    ∙ (let next : i + 1 + 1 ≡ suc i + 1 = omega arith in ap (λ (k : ℕ). x ∷ drop k (y ∷ ys)) (one-more i ∙ next))
  where
    one-more : (k : ℕ) → suc (k + 1) ≡ k + 1 + 1
    one-more k = omega arith

pub drop-none : {X : Type 0} (xs : List X) (i : ℕ) → length xs ≤ i → drop i xs ≡ []
drop-none [] zero past = refl
drop-none [] (suc i) past = refl
drop-none (y ∷ ys) zero past = absurd (omega arith)
drop-none (y ∷ ys) (suc i) past = drop-none ys i (omega arith)

-- the list is its front and what is behind it
pub listed-again : {X : Type 0} (xs : List X) (i : ℕ) → xs ≡ take i xs ++ drop i xs
listed-again xs zero = refl
listed-again [] (suc i) = refl
listed-again (x ∷ xs) (suc i) = ap (λ l. x ∷ l) (listed-again xs i)

-- ---- lists in order

module _ {K : Type 0} (cmp : K → K → Ordering) where
  all-without : (x y : K) (xs ys : List K) → AllByRecursion (λ z. cmp y z ≡ Less) (xs ++ x ∷ ys) → AllByRecursion (λ z. cmp y z ≡ Less) (xs ++ ys)
  all-without x y [] ys all = all.1
  all-without x y (z ∷ xs) ys all = (all.0, all-without x y xs ys all.1)

  -- one fewer
  pub sorted-without : (x : K) (xs ys : List K) → IsStrictlySortedBy cmp (xs ++ x ∷ ys) → IsStrictlySortedBy cmp (xs ++ ys)
  unfolding IsStrictlySortedBy
  sorted-without x [] ys sorted = sorted.1
  sorted-without x (y ∷ xs) ys sorted = (all-without x y xs ys sorted.0, sorted-without x xs ys sorted.1)

  pub sorted-nil : IsStrictlySortedBy cmp []
  unfolding IsStrictlySortedBy
  sorted-nil = tt

  all-behind : (x : K) (xs ys : List K) → AllByRecursion (λ z. cmp x z ≡ Less) xs → AllByRecursion (λ z. cmp x z ≡ Less) ys
      → AllByRecursion (λ z. cmp x z ≡ Less) (xs ++ ys)
  all-behind x [] ys front back = back
  all-behind x (z ∷ xs) ys front back = (front.0, all-behind x xs ys front.1 back)

  -- two lists, each of the first before each of the second
  pub sorted-both : (xs ys : List K) → IsStrictlySortedBy cmp xs → IsStrictlySortedBy cmp ys → All (λ x. All (λ y. cmp x y ≡ Less) ys) xs
      → IsStrictlySortedBy cmp (xs ++ ys)
  unfolding IsStrictlySortedBy
  sorted-both [] ys first second apart = second
  sorted-both (x ∷ xs) ys first second apart = (
    all-behind x xs ys first.0 (recursion_from_All (λ z. cmp x z ≡ Less) ys (All-head (λ (k : K). All (λ y. cmp k y ≡ Less) ys) x xs apart)),
    sorted-both xs ys first.1 second (All-tail (λ (k : K). All (λ y. cmp k y ≡ Less) ys) x xs apart),
  )

  -- those behind one are greater
  pub after-one : (xs : List K) (x : K) (ys : List K) → IsStrictlySortedBy cmp (xs ++ x ∷ ys) → All (λ y. cmp x y ≡ Less) ys
  unfolding IsStrictlySortedBy
  after-one [] x ys sorted = All-from_recursion (λ z. cmp x z ≡ Less) ys sorted.0
  after-one (y ∷ xs) x ys sorted = after-one xs x ys sorted.1

  -- one that is less than another stands before it
  pub stands-before : IsTotalOrder cmp → (front rest : List K) (x y : K) → IsStrictlySortedBy cmp (front ++ y ∷ rest) → Contains (front ++ y ∷ rest) x
      → cmp x y ≡ Less → Contains front x
  stands-before total front rest x y sorted inside less = elim (Contains-append_cases front (y ∷ rest) x inside) [
    | inl early ↦ early
    | inr late ↦ elim (front_or_behind y rest x late) [
      | inl here ↦
          let same : cmp x x ≡ Less = subst (λ (k : K). cmp x k ≡ Less) here less in
          let clash = sym (tied_itself total x) ∙ same in cc
      | inr later ↦
          let after : cmp y x ≡ Less = All-contains (λ z. cmp y z ≡ Less) rest x (after-one front y rest sorted) later in
          let same : cmp x x ≡ Less = total.trans x y x less after in
          let clash = sym (tied_itself total x) ∙ same in cc
    ]
  ]
