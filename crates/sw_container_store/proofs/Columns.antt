-- A row by its columns.
use Rattle.std.proofs.Common.{◌≡◌, [], ◌∷◌, length, arith}
use Rattle.sqlite_value.specs.Order.{Row as SqlRow, column}
use Rattle.sqlite_value.specs.declared.value.Value.{Value}

-- a row of seven
pub seven : (row : SqlRow) (a b c d e f g : Value) → length row ≡ 7 → column row 0 ≡ a → column row 1 ≡ b → column row 2 ≡ c → column row 3 ≡ d
    → column row 4 ≡ e → column row 5 ≡ f → column row 6 ≡ g → row ≡ a ∷ b ∷ c ∷ d ∷ e ∷ f ∷ g ∷ []
seven [] a b c d e f g count h0 h1 h2 h3 h4 h5 h6 = absurd (omega (arith, count))
seven (v0 ∷ []) a b c d e f g count h0 h1 h2 h3 h4 h5 h6 = absurd (omega (arith, count))
seven (v0 ∷ v1 ∷ []) a b c d e f g count h0 h1 h2 h3 h4 h5 h6 = absurd (omega (arith, count))
seven (v0 ∷ v1 ∷ v2 ∷ []) a b c d e f g count h0 h1 h2 h3 h4 h5 h6 = absurd (omega (arith, count))
seven (v0 ∷ v1 ∷ v2 ∷ v3 ∷ []) a b c d e f g count h0 h1 h2 h3 h4 h5 h6 = absurd (omega (arith, count))
seven (v0 ∷ v1 ∷ v2 ∷ v3 ∷ v4 ∷ []) a b c d e f g count h0 h1 h2 h3 h4 h5 h6 = absurd (omega (arith, count))
seven (v0 ∷ v1 ∷ v2 ∷ v3 ∷ v4 ∷ v5 ∷ []) a b c d e f g count h0 h1 h2 h3 h4 h5 h6 = absurd (omega (arith, count))
seven (v0 ∷ v1 ∷ v2 ∷ v3 ∷ v4 ∷ v5 ∷ v6 ∷ []) a b c d e f g count h0 h1 h2 h3 h4 h5 h6 =
    λ i. h0 i ∷ h1 i ∷ h2 i ∷ h3 i ∷ h4 i ∷ h5 i ∷ h6 i ∷ []
seven (v0 ∷ v1 ∷ v2 ∷ v3 ∷ v4 ∷ v5 ∷ v6 ∷ v7 ∷ more) a b c d e f g count h0 h1 h2 h3 h4 h5 h6 = absurd (omega (arith, count))
