-- Members with a comma between each two.
use Rattle.std.proofs.Common.{◌≡◌, ℕ, ◌+◌, ◌<◌, ◌≤◌, refl, sym, ◌∙◌, ap, List, [], ◌∷◌, ◌++◌, append_assoc, length, get_or, map, take, arith}
use Rattle.std.proofs.lemmas.List.{length-map, length-take-le, map_more}
use Rattle.std.specs.List.{join_with_byte}
use Rattle.sw_replica_server.specs.ReplicaText.{comma}

joined-more : (xs : List (List ℕ)) (y : List ℕ) → join_with_byte 44 (xs ++ y ∷ []) ≡ join_with_byte 44 xs ++ (comma (length xs) ++ y)
joined-more [] y = refl
joined-more (x ∷ []) y = refl
joined-more (x ∷ z ∷ xs) y =
    ap (λ (t : List ℕ). x ++ 44 ∷ t) (joined-more (z ∷ xs) y) ∙ sym (append_assoc x (44 ∷ join_with_byte 44 (z ∷ xs)) (44 ∷ y))

-- the members before the index, and then the one at it
pub members-more : {A : Type 0} (f : A → List ℕ) (xs : List A) (i : ℕ) (x e : A) (a b d : List ℕ) → i < length xs → x ≡ get_or xs i e
    → a ≡ 123 ∷ join_with_byte 44 (map f (take i xs)) → b ≡ a ++ comma i → d ≡ b ++ f x → d ≡ 123 ∷ join_with_byte 44 (map f (take (i + 1) xs))
members-more {A} f xs i x e a b d within is before second third =
    let front : List (List ℕ) = map f (take i xs) in
    let more : map f (take (i + 1) xs) ≡ front ++ f x ∷ [] =
    map_more f xs i e within ∙ ap (λ (y : A). front ++ f y ∷ []) (sym is) in
    let upto : i ≤ length xs = omega arith in
    let count : length front ≡ i = length-map (take i xs) f ∙ length-take-le i xs upto in
    let joined : join_with_byte 44 (map f (take (i + 1) xs)) ≡ join_with_byte 44 front ++ (comma i ++ f x) =
    ap (join_with_byte 44) more ∙ (joined-more front (f x) ∙ ap (λ (n : ℕ). join_with_byte 44 front ++ (comma n ++ f x)) count) in
    third ∙ (ap (λ (t : List ℕ). t ++ f x) (second ∙ ap (λ (t : List ℕ). t ++ comma i) before)
    ∙ (ap (λ (t : List ℕ). t ++ f x) (append_assoc (123 ∷ []) (join_with_byte 44 front) (comma i))
    ∙ ap (λ (t : List ℕ). 123 ∷ t) (append_assoc (join_with_byte 44 front) (comma i) (f x) ∙ sym joined)))
