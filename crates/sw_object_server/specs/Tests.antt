-- Tests in a row, each with the status that refuses what fails it. (This project's own.)
use Rattle.std.specs.Prelude.{◌≡◌, ℕ, List, [], ◌∷◌, ◌⊎◌}

-- the first test that fails decides: the outcome is the refusal by its status. Where none fails, the outcome is one of these
abbrev pub IsDecided : {X : Type 0} → List (ℕ × Type 0) → (ℕ → X) → (X → Type 0) → X → Type 0
IsDecided [] refusal Else outcome = Else outcome
IsDecided (test ∷ later) refusal Else outcome =
    (test.1 × IsDecided later refusal Else outcome) ⊎ ((¬ test.1) × (outcome ≡ refusal test.0))
