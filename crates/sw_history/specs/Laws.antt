-- What is promised of every history, whatever its lock keeps. (This project's own.)
use Rattle.sw_history.specs.Halves.{GrowsOf, HistoryOf}

-- a history that is later than a later one is later
abbrev pub GrowthGoesOn : Type 0 → Type 0 → Type 0 → Type 0 → Type 0
GrowthGoesOn K V E D = (h i g : HistoryOf K V E D) → GrowsOf h i → GrowsOf i g → GrowsOf h g
