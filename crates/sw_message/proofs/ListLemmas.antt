-- Lists that are cut.
use Rattle.std.proofs.Common.{◌≡◌, ℕ, ◌+◌, List, [], ◌∷◌, ◌++◌, length, take, refl, ap}
use Rattle.std.proofs.Math.Seq.{take-add}
use Rattle.std.proofs.lemmas.List.{take_at, drop_at}

-- the first bytes, and some behind them
pub take_past : (a b : List ℕ) (had given : ℕ) → length a ≡ had → take (had + given) (a ++ b) ≡ a ++ take given b
take_past a b had given size = rw (take-add, take_at a b had size, drop_at a b had size)

pub take_every : (xs : List ℕ) → take (length xs) xs ≡ xs
take_every [] = refl
take_every (x ∷ xs) = ap (λ (l : List ℕ). x ∷ l) (take_every xs)
