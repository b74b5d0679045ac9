-- How the names of devices grow.
use Rattle.std.proofs.Common.{◌≡◌, ℕ, ◌+◌, ◌<◌, List, [], ◌∷◌, ◌++◌, length, get_or, take, refl, sym, ap, ◌∙◌, append_assoc, slice_index_or}
use Rattle.std.proofs.lemmas.List.{take_more}
use Rattle.sw_control.specs.PendingText.{names_text}

-- one device more, behind a comma
names_text-push : (devices : List (List ℕ)) (d : ℕ) (ds : List ℕ) (e : ℕ)
    → names_text devices (d ∷ (ds ++ e ∷ [])) ≡ names_text devices (d ∷ ds) ++ 44 ∷ slice_index_or devices e []
names_text-push devices d [] e = refl
names_text-push devices d (x ∷ ds) e =
    ap (λ (t : List ℕ). slice_index_or devices d [] ++ 44 ∷ t) (names_text-push devices x ds e)
    ∙ sym (append_assoc (slice_index_or devices d []) (44 ∷ names_text devices (x ∷ ds)) (44 ∷ slice_index_or devices e []))

names_text-more : (devices : List (List ℕ)) (d : ℕ) (ds : List ℕ) (i : ℕ) → i < length ds
    → names_text devices (d ∷ take (i + 1) ds) ≡ names_text devices (d ∷ take i ds) ++ 44 ∷ slice_index_or devices (get_or ds i 0) []
names_text-more devices d ds i within =
    ap (λ (l : List ℕ). names_text devices (d ∷ l)) (take_more ds i 0 within) ∙ names_text-push devices d (take i ds) (get_or ds i 0)

pub name_added : (devices : List (List ℕ)) (d : ℕ) (ds : List ℕ) (i : ℕ) (out before comma name after : List ℕ) → i < length ds
    → before ≡ out ++ names_text devices (d ∷ take i ds) → comma ≡ before ++ 44 ∷ [] → name ≡ slice_index_or devices (get_or ds i 0) []
    → after ≡ comma ++ name → after ≡ out ++ names_text devices (d ∷ take (i + 1) ds)
name_added devices d ds i out before comma name after within one two is three =
    three ∙ ap (λ (l : List ℕ). comma ++ l) is
    ∙ ap (λ (l : List ℕ). l ++ slice_index_or devices (get_or ds i 0) []) (two ∙ ap (λ (l : List ℕ). l ++ 44 ∷ []) one)
    ∙ append_assoc (out ++ names_text devices (d ∷ take i ds)) (44 ∷ []) (slice_index_or devices (get_or ds i 0) [])
    ∙ append_assoc out (names_text devices (d ∷ take i ds)) (44 ∷ slice_index_or devices (get_or ds i 0) [])
    ∙ ap (λ (l : List ℕ). out ++ l) (sym (names_text-more devices d ds i within))
