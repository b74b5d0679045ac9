-- What a list contains that has one more in front.
use Rattle.std.proofs.Common.{◌≡◌, zero, suc, List, [], ◌∷◌, ◌⊎◌, inl, inr, refl, sym, arith}
use Rattle.std.specs.List.{Contains}

module _ {X : Type 0} where
  pub none-among : (x : X) → Contains [] x → ⊥
  none-among x is = let within = is.1 in absurd (omega arith)

  pub in-front : (x : X) (xs : List X) → Contains (x ∷ xs) x
  in-front x xs = (zero, omega arith, refl)

  pub behind : (y : X) (xs : List X) (x : X) → Contains xs x → Contains (y ∷ xs) x
  behind y xs x is = let within = is.1 in (suc is.0, omega arith, is.2)

  pub front-or-behind : (y : X) (xs : List X) (x : X) → Contains (y ∷ xs) x → (x ≡ y) ⊎ Contains xs x
  front-or-behind y xs x (zero, within, at) = inl (sym at)
  front-or-behind y xs x (suc k, within, at) = inr (k, omega (arith, within), at)
