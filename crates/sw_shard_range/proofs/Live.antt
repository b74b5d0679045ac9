-- The names of live rows, in byte order.
use Rattle.std.proofs.Common.{◌≡◌, ◌⊎◌, inl, inr, ℕ, ◌+◌, ◌==◌, Bool, true, false, cond, List, [], ◌∷◌, refl, sym, ◌∙◌, ap, subst}
use Rattle.std.specs.Cmp.Lexicographic.{slice_cmp}
use Rattle.std.specs.List.{AllByRecursion}
use Rattle.std.specs.List.Sorted.{IsStrictlySortedBy}
use Rattle.std.specs.Ordering.{match_ordering, nat_cmp, ordering_reverse}
use Rattle.std.specs.declared.cmp.Ordering.{Ordering}
use Rattle.std.specs.declared.cmp.Ordering.TheVariants.{Less, Equal, Greater}
use Rattle.std.proofs.lemmas.Cmp.{nat_list_cmp_total}
use Rattle.std.proofs.lemmas.Map.Lookups.{exact_bytes}
use Rattle.sw_rows.specs.declared.numbered.Numbered.{Numbered}
use Rattle.sw_shard_range.specs.Bounds.{every, live_names, with_name}
use Rattle.sw_shard_range.specs.Laws.{BoundsRise}
use Rattle.sw_shard_range.proofs.Members.{In, sorted-take}

abbrev pub by_bytes : List ℕ → List ℕ → Ordering
by_bytes = slice_cmp nat_cmp

abbrev pub AreSorted : List (List ℕ) → Type 0
AreSorted names = IsStrictlySortedBy by_bytes names

-- ---- a name that is put in its place

-- what is below a name is below all above it
weaker : (m n : List ℕ) (ns : List (List ℕ)) → by_bytes m n ≡ Less → AllByRecursion (λ y. by_bytes n y ≡ Less) ns →
    AllByRecursion (λ y. by_bytes m y ≡ Less) ns
weaker m n [] less all = tt
weaker m n (k ∷ ks) less all = (nat_list_cmp_total.trans m n k less all.0, weaker m n ks less all.1)

all-with : (P : List ℕ → Type 0) (name : List ℕ) (ns : List (List ℕ)) → AllByRecursion P ns → P name → AllByRecursion P (with_name name ns)
all-with P name [] all one = (one, tt)
all-with P name (n ∷ ns) all one = at (by_bytes name n) (all-with P name ns all.1 one)
  where
    at : (o : Ordering) → AllByRecursion P (with_name name ns) → AllByRecursion P (match_ordering o (name ∷ n ∷ ns) (n ∷ ns) (n ∷ with_name name ns))
    at Less rest = (one, all)
    at Equal rest = all
    at Greater rest = (all.0, rest)

sorted-with : (name : List ℕ) (ns : List (List ℕ)) → AreSorted ns → AreSorted (with_name name ns)
unfolding IsStrictlySortedBy
sorted-with name [] sorted = (tt, tt)
sorted-with name (n ∷ ns) sorted = at (by_bytes name n) refl (sorted-with name ns sorted.1)
  where
    at : (o : Ordering) → by_bytes name n ≡ o → AreSorted (with_name name ns) →
        AreSorted (match_ordering o (name ∷ n ∷ ns) (n ∷ ns) (n ∷ with_name name ns))
    at Less is rest = ((is, weaker name n ns is sorted.0), sorted)
    at Equal is rest = sorted
    at Greater is rest =
        (all-with (λ y. by_bytes n y ≡ Less) name ns sorted.0 (nat_list_cmp_total.antisymm n name ∙ ap ordering_reverse is), rest)

in-with : (x name : List ℕ) (ns : List (List ℕ)) → In x (with_name name ns) → (name ≡ x) ⊎ In x ns
in-with x name [] (inl here) = inl here
in-with x name [] (inr there) = absurd there
in-with x name (n ∷ ns) is = at (by_bytes name n) is (λ h. in-with x name ns h)
  where
    at : (o : Ordering) → In x (match_ordering o (name ∷ n ∷ ns) (n ∷ ns) (n ∷ with_name name ns)) → (In x (with_name name ns) → (name ≡ x) ⊎ In x ns) →
        (name ≡ x) ⊎ In x (n ∷ ns)
    at Less is rest = is
    at Equal is rest = inr is
    at Greater (inl here) rest = inr (inl here)
    at Greater (inr there) rest = elim (rest there) [ inl new ↦ inl new | inr old ↦ inr (inr old) ]

with-there : (name : List ℕ) (ns : List (List ℕ)) → In name (with_name name ns)
with-there name [] = inl refl
with-there name (n ∷ ns) = at (by_bytes name n) refl (with-there name ns)
  where
    at : (o : Ordering) → by_bytes name n ≡ o → In name (with_name name ns) → In name (match_ordering o (name ∷ n ∷ ns) (n ∷ ns) (n ∷ with_name name ns))
    at Less is rest = inl refl
    at Equal is rest = inl (sym (exact_bytes name n is))
    at Greater is rest = inr rest

with-keeps : (x name : List ℕ) (ns : List (List ℕ)) → In x ns → In x (with_name name ns)
with-keeps x name [] is = absurd is
with-keeps x name (n ∷ ns) is = at (by_bytes name n) is (λ h. with-keeps x name ns h)
  where
    at : (o : Ordering) → In x (n ∷ ns) → (In x ns → In x (with_name name ns)) → In x (match_ordering o (name ∷ n ∷ ns) (n ∷ ns) (n ∷ with_name name ns))
    at Less is rest = inr is
    at Equal is rest = is
    at Greater (inl here) rest = inl here
    at Greater (inr there) rest = inr (rest there)

-- ---- the names of all live rows

-- a live row of the list has the name
abbrev pub IsLive : List Numbered → List ℕ → Type 0
IsLive list name = (n : Numbered) × In n list × (n.row.deleted ≡ false) × (n.row.name ≡ name)

pub live-sorted : (list : List Numbered) → AreSorted (live_names list)
unfolding IsStrictlySortedBy
live-sorted [] = tt
live-sorted (n ∷ ns) = at n.row.deleted (live-sorted ns)
  where
    at : (b : Bool) → AreSorted (live_names ns) → AreSorted (cond b (live_names ns) (with_name n.row.name (live_names ns)))
    at true rest = rest
    at false rest = sorted-with n.row.name (live_names ns) rest

later : (n : Numbered) (ns : List Numbered) (name : List ℕ) → IsLive ns name → IsLive (n ∷ ns) name
later n ns name live = (live.0, inr live.1, live.2, live.3)

pub live-from : (list : List Numbered) (name : List ℕ) → In name (live_names list) → IsLive list name
live-from [] name is = absurd is
live-from (n ∷ ns) name is = at n.row.deleted refl is (λ h. live-from ns name h)
  where
    at : (b : Bool) → n.row.deleted ≡ b → In name (cond b (live_names ns) (with_name n.row.name (live_names ns))) → (In name (live_names ns) → IsLive ns name) →
        IsLive (n ∷ ns) name
    at true gone is rest = later n ns name (rest is)
    at false live is rest =
        elim (in-with name n.row.name (live_names ns) is) [ inl here ↦ (n, inl refl, live, here) | inr there ↦ later n ns name (rest there) ]

pub live-into : (list : List Numbered) (n : Numbered) → In n list → n.row.deleted ≡ false → In n.row.name (live_names list)
live-into [] n is live = absurd is
live-into (m ∷ ms) n is live = at m.row.deleted refl is (λ h. live-into ms n h live)
  where
    at : (b : Bool) → m.row.deleted ≡ b → In n (m ∷ ms) → (In n ms → In n.row.name (live_names ms)) →
        In n.row.name (cond b (live_names ms) (with_name m.row.name (live_names ms)))
    at true gone (inl here) rest =
        let dead : n.row.deleted ≡ true = subst (λ (k : Numbered). k.row.deleted ≡ true) here gone in
        cc
    at true gone (inr there) rest = rest there
    at false alive (inl here) rest =
        subst (λ (k : Numbered). In k.row.name (with_name m.row.name (live_names ms))) here (with-there m.row.name (live_names ms))
    at false alive (inr there) rest = with-keeps n.row.name m.row.name (live_names ms) (rest there)

-- ---- the bounds among them

all-every : (P : List ℕ → Type 0) (per come : ℕ) (ns : List (List ℕ)) → AllByRecursion P ns → AllByRecursion P (every per come ns)
all-every P per come [] all = tt
all-every P per come (n ∷ []) all = tt
all-every P per come (n ∷ m ∷ ns) all =
    at (come + 1 == per) (all-every P per 0 (m ∷ ns) all.1) (all-every P per (come + 1) (m ∷ ns) all.1)
  where
    at : (b : Bool) → AllByRecursion P (every per 0 (m ∷ ns)) → AllByRecursion P (every per (come + 1) (m ∷ ns)) →
        AllByRecursion P (cond b (n ∷ every per 0 (m ∷ ns)) (every per (come + 1) (m ∷ ns)))
    at true begun more = (all.0, begun)
    at false begun more = more

sorted-every : (per come : ℕ) (ns : List (List ℕ)) → AreSorted ns → AreSorted (every per come ns)
unfolding IsStrictlySortedBy
sorted-every per come [] sorted = tt
sorted-every per come (n ∷ []) sorted = tt
sorted-every per come (n ∷ m ∷ ns) sorted =
    at (come + 1 == per) (sorted-every per 0 (m ∷ ns) sorted.1) (sorted-every per (come + 1) (m ∷ ns) sorted.1)
  where
    at : (b : Bool) → AreSorted (every per 0 (m ∷ ns)) → AreSorted (every per (come + 1) (m ∷ ns)) →
        AreSorted (cond b (n ∷ every per 0 (m ∷ ns)) (every per (come + 1) (m ∷ ns)))
    at true begun more = (all-every (λ y. by_bytes n y ≡ Less) per 0 (m ∷ ns) sorted.0, begun)
    at false begun more = more

pub bounds-rise : BoundsRise
bounds-rise per list = sorted-take by_bytes 4294967294 (every per 0 (live_names list)) (sorted-every per 0 (live_names list) (live-sorted list))
