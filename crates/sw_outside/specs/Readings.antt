-- The readings of a clock. (This project's own.)
use Rattle.std.specs.Prelude.{◌≡◌, ℕ, List, [], ◌∷◌, Option, None, Some}

-- the reading that comes first; a clock that has none to come shows 0
abbrev pub first_reading : List ℕ → ℕ
first_reading [] = 0
first_reading (reading ∷ readings) = reading

-- the readings to come after it: the last one stays
abbrev pub later_readings : List ℕ → List ℕ
later_readings [] = []
later_readings (reading ∷ []) = reading ∷ []
later_readings (reading ∷ next ∷ readings) = next ∷ readings

-- the clock was read once
abbrev pub Ticks : Option (List ℕ) → Option (List ℕ) → ℕ → Type 0
Ticks None after reading = after ≡ None
Ticks (Some readings) after reading = (reading ≡ first_reading readings) × (after ≡ Some (later_readings readings))

-- the clock was read once for each of these readings, in order
abbrev pub TicksEach : Option (List ℕ) → Option (List ℕ) → List ℕ → Type 0
TicksEach before after [] = after ≡ before
TicksEach before after (reading ∷ readings) = (mid : Option (List ℕ)) × Ticks before mid reading × TicksEach mid after readings
