-- Words of `serve` are those of no other command.
use Rattle.std.proofs.Common.{◌≡◌, ℕ, true, false, List, [], ◌∷◌, subst}
use Rattle.std.specs.Prelude.{codes}
use Rattle.sw_words.specs.Serve.{IsServe}
use Rattle.sw_words.specs.declared.serve.ServeOptions.{ServeOptions}
use Rattle.sw_cluster.specs.Words.{are_run_words, are_where_words}

not-run : (ring : List ℕ) (rest : List (List ℕ)) → are_run_words (codes "serve" ∷ ring ∷ rest) ≡ true → ⊥
not-run ring [] is = let no : false ≡ true = is in cc
not-run ring (word ∷ rest) is = let no : false ≡ true = is in cc

not-where : (ring : List ℕ) (rest : List (List ℕ)) → are_where_words (codes "serve" ∷ ring ∷ rest) ≡ true → ⊥
not-where ring [] is = let no : false ≡ true = is in cc
not-where ring (word ∷ rest) is = let no : false ≡ true = is in cc

pub serve-not-run : (words : List (List ℕ)) (options : ServeOptions) → IsServe words options → are_run_words words ≡ true → ⊥
serve-not-run words options served is =
    not-run served.are_words.ring _ (subst (λ (ws : List (List ℕ)). are_run_words ws ≡ true) served.are_words.in_words is)

pub serve-not-where : (words : List (List ℕ)) (options : ServeOptions) → IsServe words options → are_where_words words ≡ true → ⊥
serve-not-where words options served is =
    not-where served.are_words.ring _ (subst (λ (ws : List (List ℕ)). are_where_words ws ≡ true) served.are_words.in_words is)
