-- Where a search in order ends.
use Rattle.std.proofs.Common.{◌≡◌, ℕ, ◌<◌, ◌≤◌, zero, suc, Bool, true, false, List, [], ◌∷◌, length, get_or, refl, ap, arith}
use Rattle.std.specs.List.{AllByRecursion, prefix_len}
use Rattle.std.specs.List.Sorted.{IsPartitionedBy, IsPartitionPoint, IsStrictlySortedBy}
use Rattle.std.specs.Map.{keys_of}
use Rattle.std.specs.Ordering.{is_lt}
use Rattle.std.specs.declared.cmp.Ordering.{Ordering}
use Rattle.std.specs.declared.cmp.Ordering.TheVariants.{Less, Equal, Greater}
use Rattle.std.proofs.lemmas.Map.Keys.{sorted_head, sorted_tail}
use Rattle.sw_hashpath.specs.declared.place.Place.{Place}
use Rattle.sw_keeper.specs.Places.{place_cmp}
use Rattle.sw_keeper.proofs.Placing.{place_total}

module _ {X : Type 0} (p : X → Bool) where
  -- what passes ends where a search found it
  pub prefix_at : (xs : List X) (i : ℕ) → i ≤ length xs → IsPartitionPoint (λ y. p y ≡ true) (λ y. p y ≡ false) xs i → prefix_len p xs ≡ i
  prefix_at [] i le point = omega arith
  prefix_at (x ∷ xs) zero le point =
      let first : p x ≡ false = point.1 0 x (omega arith) (omega arith) in
      rw first refl
  prefix_at (x ∷ xs) (suc i) le point =
      let first : p x ≡ true = point.0 0 x (omega arith) (omega arith) in
      let rest : prefix_len p xs ≡ i = prefix_at xs i (omega arith) (
        λ k d low high. point.0 (suc k) d (omega arith) (omega arith),
        λ k d low high. point.1 (suc k) d (omega arith) (omega arith),
      ) in
      rw (first, rest) (omega arith)

less : (o : Ordering) → is_lt o ≡ true → o ≡ Less
less Less is = refl
less Equal is = cc
less Greater is = cc

module _ {X : Type 0} where
  key_at : (P : Place → Type 0) (es : List (Place × X)) (j : ℕ) (d : Place × X) → AllByRecursion P (keys_of es) → j < length es → P (get_or es j d).0
  key_at P [] j d all inside = absurd (omega arith)
  key_at P (e ∷ es) zero d all inside = all.0
  key_at P (e ∷ es) (suc j) d all inside = key_at P es j d all.1 (omega arith)

  -- of shelves in the order of places, those before a place come first
  pub shelves_partitioned : (es : List (Place × X)) (place : Place) → IsStrictlySortedBy place_cmp (keys_of es) →
      IsPartitionedBy (λ s. is_lt (place_cmp s.0 place)) es
  shelves_partitioned [] place sorted i j d le inside passes = absurd (omega arith)
  shelves_partitioned (e ∷ es) place sorted zero zero d le inside passes = passes
  shelves_partitioned (e ∷ es) place sorted zero (suc j) d le inside passes =
      let x : Place = (get_or es j d).0 in
      let up : place_cmp e.0 x ≡ Less = key_at (λ y. place_cmp e.0 y ≡ Less) es j d (sorted_head place_cmp e.0 (keys_of es) sorted) (omega arith) in
      ap is_lt (place_total.trans e.0 x place up (less (place_cmp x place) passes))
  shelves_partitioned (e ∷ es) place sorted (suc i) zero d le inside passes = absurd (omega arith)
  shelves_partitioned (e ∷ es) place sorted (suc i) (suc j) d le inside passes =
      shelves_partitioned es place (sorted_tail place_cmp e.0 (keys_of es) sorted) i j d (omega arith) (omega arith) passes
