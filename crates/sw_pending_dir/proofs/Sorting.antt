-- Names in a set: each once, in byte order.
use Rattle.std.proofs.Common.{◌≡◌, ℕ, inl, inr, ◌⊎◌, ◌↔◌, refl, sym, subst, List, [], ◌∷◌, ◌++◌, map}
use Rattle.std.proofs.lemmas.List.Elements.{Contains-append_left, Contains-push, Contains-push_cases}
use Rattle.std.specs.BTreeSet.{insert_key}
use Rattle.std.specs.Cmp.Lexicographic.{slice_cmp}
use Rattle.std.specs.List.{AllByRecursion, Contains}
use Rattle.std.specs.List.Sorted.{IsStrictlySortedBy}
use Rattle.std.specs.Ordering.{match_ordering, nat_cmp}
use Rattle.std.specs.declared.alloc.Global.{Global}
use Rattle.std.specs.declared.cmp.Ordering.{Ordering}
use Rattle.std.specs.declared.cmp.Ordering.TheVariants.{Equal, Greater, Less}
use Rattle.std.specs.declared.vec.Vec.{Vec}
use Rattle.sw_pending_dir.proofs.Lists.{at_front, behind, front_or_behind}
use Rattle.sw_pending_dir.proofs.Suffixes.{list_same}

abbrev by_items : Vec ℕ Global → Vec ℕ Global → Ordering
by_items x y = slice_cmp nat_cmp x.items y.items

abbrev pub items_of : List (Vec ℕ Global) → List (List ℕ)
items_of ks = map (λ k. k.items) ks

-- the new names are the old ones and this one
abbrev pub AddsName : List (List ℕ) → List (List ℕ) → List ℕ → Type 0
AddsName old new name = (q : List ℕ) → Contains new q ↔ (Contains old q ⊎ (q ≡ name))

adds-front : (x : List ℕ) (xs : List (List ℕ)) → AddsName xs (x ∷ xs) x
adds-front x xs q = (
  λ is. elim (front_or_behind x xs q is) [ inl e ↦ inr (sym e) | inr later ↦ inl later ],
  λ either. elim either [ inl later ↦ behind x xs q later | inr e ↦ subst (λ (p : List ℕ). Contains (x ∷ xs) p) (sym e) (at_front x xs) ],
)

adds-there : (x : List ℕ) (xs : List (List ℕ)) → Contains xs x → AddsName xs xs x
adds-there x xs there q = (
  λ is. inl is,
  λ either. elim either [ inl is ↦ is | inr e ↦ subst (λ (p : List ℕ). Contains xs p) (sym e) there ],
)

adds-behind : (x name : List ℕ) (xs ys : List (List ℕ)) → AddsName xs ys name → AddsName (x ∷ xs) (x ∷ ys) name
adds-behind x name xs ys adds q = (
  λ is. elim (front_or_behind x ys q is) [
    | inl e ↦ inl (subst (λ (p : List ℕ). Contains (x ∷ xs) p) e (at_front x xs))
    | inr later ↦ elim ((adds q).0 later) [ inl old ↦ inl (behind x xs q old) | inr new ↦ inr new ]
  ],
  λ either. elim either [
    | inl is ↦ elim (front_or_behind x xs q is) [
      | inl e ↦ subst (λ (p : List ℕ). Contains (x ∷ ys) p) e (at_front x ys)
      | inr later ↦ behind x ys q ((adds q).1 (inl later))
    ]
    | inr new ↦ behind x ys q ((adds q).1 (inr new))
  ],
)

pub insert-adds : (k : Vec ℕ Global) (ks : List (Vec ℕ Global)) → AddsName (items_of ks) (items_of (insert_key by_items ks k)) k.items
insert-adds k [] = adds-front k.items []
insert-adds k (x ∷ xs) = by (by_items k x) refl (insert-adds k xs)
  where
    by : (o : Ordering) → by_items k x ≡ o → AddsName (items_of xs) (items_of (insert_key by_items xs k)) k.items
        → AddsName (items_of (x ∷ xs)) (items_of (match_ordering o (k ∷ x ∷ xs) (x ∷ xs) (x ∷ insert_key by_items xs k))) k.items
    by Less e later = adds-front k.items (items_of (x ∷ xs))
    by Equal e later = adds-there k.items (items_of (x ∷ xs))
        (subst (λ (bs : List ℕ). Contains (items_of (x ∷ xs)) bs) (sym (list_same k.items x.items e)) (at_front x.items (items_of xs)))
    by Greater e later = adds-behind x.items k.items (items_of xs) (items_of (insert_key by_items xs k)) later

all-items : (x : Vec ℕ Global) (ks : List (Vec ℕ Global)) → AllByRecursion (λ y. by_items x y ≡ Less) ks
    → AllByRecursion (λ y. slice_cmp nat_cmp x.items y ≡ Less) (items_of ks)
all-items x [] all = all
all-items x (k ∷ ks) all = (all.0, all-items x ks all.1)

pub ascending : (ks : List (Vec ℕ Global)) → IsStrictlySortedBy by_items ks → IsStrictlySortedBy (slice_cmp nat_cmp) (items_of ks)
unfolding IsStrictlySortedBy
ascending [] sorted = sorted
ascending (k ∷ ks) sorted = (all-items k ks sorted.0, ascending ks sorted.1)

-- the set has the names so far, and one more
pub set-more : (front : List (List ℕ)) (name : List ℕ) (old new : List (List ℕ)) → AddsName old new name
    → ((q : List ℕ) → Contains old q ↔ Contains front q) → (q : List ℕ) → Contains new q ↔ Contains (front ++ name ∷ []) q
set-more front name old new adds are q = (
  λ is. elim ((adds q).0 is) [
    | inl before ↦ Contains-append_left front (name ∷ []) q ((are q).0 before)
    | inr e ↦ subst (λ (p : List ℕ). Contains (front ++ name ∷ []) p) (sym e) (Contains-push front name)
  ],
  λ is. elim (Contains-push_cases front name q is) [
    | inl before ↦ (adds q).1 (inl ((are q).1 before))
    | inr e ↦ (adds q).1 (inr (sym e))
  ],
)
