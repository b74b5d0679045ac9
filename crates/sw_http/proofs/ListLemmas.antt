-- Lists that are read into, and cut.
use Rattle.std.proofs.Common.{◌≡◌, ℕ, ◌+◌, ◌≤◌, List, [], ◌∷◌, ◌++◌, length, take, refl, ap, ◌∙◌, arith, append_assoc}
use Rattle.std.proofs.lemmas.List.{take-take, take-append-le}
use Rattle.sw_message.proofs.ListLemmas.{take_past}

-- what was read into the back of a buffer, which was then cut behind it
pub read_in : (a into post tail : List ℕ) (had given len : ℕ) → length a ≡ had → given ≤ length into → had + given ≤ len
    → take (had + given) (take len ((a ++ (into ++ post)) ++ tail)) ≡ a ++ take given into
read_in a into post tail had given len size bound fits =
    take-take (had + given) len _ fits
    ∙ ap (take (had + given)) (append_assoc a (into ++ post) tail)
    ∙ take_past a ((into ++ post) ++ tail) had given size
    ∙ ap (λ (l : List ℕ). a ++ take given l) (append_assoc into post tail)
    ∙ ap (λ (l : List ℕ). a ++ l) (take-append-le given into (post ++ tail) bound)

-- behind the same front stands the same
pub same_rest : (front a b : List ℕ) → front ++ a ≡ front ++ b → a ≡ b
same_rest [] a b e = e
same_rest (x ∷ front) a b e = same_rest front a b (cc)

-- two fronts of the same length
pub fronts_same : (a b r q : List ℕ) → length a ≡ length b → a ++ r ≡ b ++ q → (a ≡ b) × (r ≡ q)
fronts_same [] [] r q size e = (refl, e)
fronts_same [] (y ∷ b) r q size e = absurd (omega arith)
fronts_same (x ∷ a) [] r q size e = absurd (omega arith)
fronts_same (x ∷ a) (y ∷ b) r q size e =
    let tails = fronts_same a b r q (omega arith) (cc) in
    (cc, tails.1)
