-- Where a search in order ends.
use Rattle.std.proofs.Common.{◌≡◌, ℕ, ◌≤◌, zero, suc, Bool, true, false, List, [], ◌∷◌, length, refl, arith}
use Rattle.std.specs.List.{prefix_len}
use Rattle.std.specs.List.Sorted.{IsPartitionPoint}

module _ {X : Type 0} (p : X → Bool) where
  -- what passes ends where a search found it
  pub prefix-at : (xs : List X) (i : ℕ) → i ≤ length xs → IsPartitionPoint (λ y. p y ≡ true) (λ y. p y ≡ false) xs i → prefix_len p xs ≡ i
  prefix-at [] i le point = omega arith
  prefix-at (x ∷ xs) zero le point =
      let first : p x ≡ false = point.1 0 x (omega arith) (omega arith) in
      rw first refl
  prefix-at (x ∷ xs) (suc i) le point =
      let first : p x ≡ true = point.0 0 x (omega arith) (omega arith) in
      let rest : prefix_len p xs ≡ i = prefix-at xs i (omega arith) (
        λ k d low high. point.0 (suc k) d (omega arith) (omega arith),
        λ k d low high. point.1 (suc k) d (omega arith) (omega arith),
      ) in
      rw (first, rest) (omega arith)
