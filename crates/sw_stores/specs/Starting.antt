-- The volumes of places, started and given back. (This project's own.)
use Rattle.std.specs.Prelude.{◌≡◌, ℕ, ◌+◌, Bool, true, ⊤, List, [], ◌∷◌, Option, None, Some, ◌⊎◌}
use Rattle.sw_stores.specs.Places.{at_place}

module _ {V : Type 0} where
  -- a volume is the one that rested, where that is known; else it is as a first volume is
  abbrev pub StartsFrom : (V → Type 0) → Option V → V → Type 0
  StartsFrom first None v = first v
  StartsFrom first (Some rested) v = v ≡ rested

  -- what rests there after a start that was undone: what rested, or a volume that was started there
  abbrev pub RestsAgain : (V → Type 0) → Option V → Option V → Type 0
  RestsAgain first old new = (new ≡ old) ⊎ ((v : V) × StartsFrom first old v × (new ≡ Some v))

  -- of each of these pairs
  abbrev pub AllRestAgain : (V → Type 0) → (ℕ → ℕ → Bool) → (ℕ → ℕ → Option V) → (ℕ → ℕ → Option V) → Type 0
  AllRestAgain first chosen old new = (d s : ℕ) → chosen d s ≡ true → RestsAgain first (old d s) (new d s)

  -- each volume starts from what rested at its place, and the first of them at this one
  abbrev pub AreStarted : (V → Type 0) → (ℕ → ℕ → Option V) → ℕ → ℕ → List V → Type 0
  AreStarted first rests stripes place [] = ⊤
  AreStarted first rests stripes place (v ∷ vs) = StartsFrom first (at_place rests stripes place) v × AreStarted first rests stripes (place + 1) vs

  -- each volume rests at its place, and the first of them at this one
  abbrev pub AreResting : (ℕ → ℕ → Option V) → ℕ → ℕ → List V → Type 0
  AreResting rests stripes place [] = ⊤
  AreResting rests stripes place (v ∷ vs) = (at_place rests stripes place ≡ Some v) × AreResting rests stripes (place + 1) vs
