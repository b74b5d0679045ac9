-- Items in the order of their names.
use Rattle.std.proofs.Common.{◌≡◌, ℕ, Bool, true, false, ◌&&◌, List, [], ◌∷◌, length, drop, refl, sym, ◌∙◌, ap, get_or, suc, ◌<◌, ◌≤◌, Option, None, Some}
use Rattle.std.specs.List.{list_all}
use Rattle.std.specs.Option.{option_map_or}
use Rattle.std.proofs.Math.Seq.{drop-cons}
use Rattle.std.proofs.lemmas.List.{drop_all}
use Rattle.sw_state.specs.HeadNames.{are_heads, is_before, is_name}
use Rattle.sw_state.specs.declared.head.Head.{Head}
use Rattle.sw_state.proofs.NameOrder.{before-trans, both, both_from}

-- the rule of a list whose first name comes after `last`, told by neighbours
abbrev pub follow : Option (List ℕ) → List Head → Bool
follow last [] = true
follow last (h ∷ hs) = is_name h.name && (option_map_or (λ l. is_before l h.name) last true && follow (Some h.name) hs)

pub all_after-trans : (a b : List ℕ) (hs : List Head) → is_before a b ≡ true → list_all (λ x. is_before b x.name) hs ≡ true →
    list_all (λ x. is_before a x.name) hs ≡ true
all_after-trans a b [] ab all = refl
all_after-trans a b (h ∷ hs) ab all =
    let parts = both (is_before b h.name) (list_all (λ x. is_before b x.name) hs) all in
    both_from (is_before a h.name) (list_all (λ x. is_before a x.name) hs) (before-trans a b h.name ab parts.0) (all_after-trans a b hs ab parts.1)

mixed : (n b a c r : Bool) → (b ≡ true → a ≡ true → c ≡ true) → (n && (b && (a && r))) ≡ ((b && c) && (n && (a && r)))
mixed true true true c r given = rw (given refl refl) refl
mixed true true false true r given = refl
mixed true true false false r given = refl
mixed true false a c r given = refl
mixed false true a true r given = refl
mixed false true a false r given = refl
mixed false false a c r given = refl

follow-after : (l : List ℕ) (hs : List Head) → follow (Some l) hs ≡ (list_all (λ x. is_before l x.name) hs && are_heads hs)
follow-after l [] = refl
follow-after l (h ∷ hs) =
    rw (follow-after h.name hs) (mixed (is_name h.name) (is_before l h.name) (list_all (λ x. is_before h.name x.name) hs)
    (list_all (λ x. is_before l x.name) hs) (are_heads hs)
    (λ before all. all_after-trans l h.name hs before all))

pub follow-none : (hs : List Head) → follow None hs ≡ are_heads hs
follow-none [] = refl
follow-none (h ∷ hs) = rw (follow-after h.name hs) refl

-- a loop that has passed the items before `i` finds the next one
pub next : (heads : List Head) (last : Option (List ℕ)) (i : ℕ) (h : Head) → i < length heads → h ≡ get_or heads i h →
    follow None heads ≡ follow last (drop i heads)
    → are_heads heads ≡ (is_name h.name && (option_map_or (λ l. is_before l h.name) last true && follow (Some h.name) (drop (suc i) heads)))
next heads last i h inside is passed =
    sym (follow-none heads) ∙ passed ∙ ap (follow last) (drop-cons heads i h inside) ∙ rw (← is) refl

pub bad_name : (heads : List Head) (last : Option (List ℕ)) (i : ℕ) (h : Head) → i < length heads → h ≡ get_or heads i h →
    follow None heads ≡ follow last (drop i heads) → false ≡ is_name h.name → false ≡ are_heads heads
bad_name heads last i h inside is passed bad = rw (next heads last i h inside is passed, ← bad) refl

not_both : (a b : Bool) → (a && (false && b)) ≡ false
not_both true b = refl
not_both false b = refl

pub bad_order : (heads : List Head) (last : Option (List ℕ)) (i : ℕ) (h : Head) → i < length heads → h ≡ get_or heads i h →
    follow None heads ≡ follow last (drop i heads) → false ≡ option_map_or (λ l. is_before l h.name) last true → false ≡ are_heads heads
bad_order heads last i h inside is passed bad =
    rw (next heads last i h inside is passed, ← bad) (sym (not_both (is_name h.name) (follow (Some h.name) (drop (suc i) heads))))

pub all_passed : (heads : List Head) (last : Option (List ℕ)) (i : ℕ) → length heads ≤ i → follow None heads ≡ follow last (drop i heads) →
    true ≡ are_heads heads
all_passed heads last i end passed = sym (sym (follow-none heads) ∙ passed ∙ ap (follow last) (drop_all i heads end))
