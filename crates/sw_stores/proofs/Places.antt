-- The pairs of places, one by one and in ranges.
use Rattle.std.proofs.Common.{◌≡◌, ◌∙◌, ℕ, ◌+◌, ◌*◌, ◌/◌, ◌%◌, ◌<◌, ◌≤◌, Bool, true, false, refl, sym, ap, subst, arith, ⊎_elim}
use Rattle.std.specs.Prelude.{◌&&◌, ◌||◌, nat_eq, nat_lt, nat_le}
use Rattle.std.proofs.lemmas.Bool.{and_parts, and_from, cases_Bool, eqb-false, eqb-true, false_from_ne_true, leb-true, le-leb, ltb-true, lt-ltb, or_cases}
use Rattle.std.proofs.lemmas.Bool.{or_left, or_right}
use Rattle.std.proofs.lemmas.Nat.{div-add-mod', div-mul-add, mod-mul-add, mod_below}
use Rattle.sw_stores.specs.Places.{is_among, is_pair}
use Rattle.sw_stores.proofs.Slots.{pair-is, pair-itself}

-- tests that follow from each other are one
both_ways : (a b : Bool) → (a ≡ true → b ≡ true) → (b ≡ true → a ≡ true) → a ≡ b
both_ways true b there back = sym (there refl)
both_ways false true there back = back refl
both_ways false false there back = refl

pub among-parts : (stripes first count d s : ℕ) → is_among stripes first count d s ≡ true →
    (s < stripes) × (first ≤ d * stripes + s) × (d * stripes + s < first + count)
among-parts stripes first count d s is =
    let low = and_parts (nat_lt s stripes) (nat_le first (d * stripes + s) && nat_lt (d * stripes + s) (first + count)) is in
    let high = and_parts (nat_le first (d * stripes + s)) (nat_lt (d * stripes + s) (first + count)) low.1 in
    (ltb-true s stripes low.0, leb-true first (d * stripes + s) high.0, ltb-true (d * stripes + s) (first + count) high.1)

among-from : (stripes first count d s : ℕ) → s < stripes → first ≤ d * stripes + s → d * stripes + s < first + count → is_among stripes first count d s ≡ true
among-from stripes first count d s low from below =
    and_from (nat_lt s stripes) (nat_le first (d * stripes + s) && nat_lt (d * stripes + s) (first + count)) (lt-ltb s stripes low)
    (and_from (nat_le first (d * stripes + s)) (nat_lt (d * stripes + s) (first + count)) (le-leb first (d * stripes + s) from)
    (lt-ltb (d * stripes + s) (first + count) below))

-- the pair of a place is the only one at it
pair-place : (stripes place d s : ℕ) → is_pair (place / stripes) (place % stripes) d s ≡ true → d * stripes + s ≡ place
pair-place stripes place d s is =
    let same = pair-is (place / stripes) (place % stripes) d s is in
    ap (λ x. x * stripes + s) same.0 ∙ ap (λ x. place / stripes * stripes + x) same.1 ∙ div-add-mod' place stripes

place-pair : (stripes place d s : ℕ) → s < stripes → d * stripes + s ≡ place → is_pair (place / stripes) (place % stripes) d s ≡ true
place-pair stripes place d s low at =
    pair-itself (place / stripes) (place % stripes) d s
    (subst (λ x. d ≡ x / stripes) at (sym (div-mul-add d stripes s low))) (subst (λ x. s ≡ x % stripes) at (sym (mod-mul-add d stripes s low)))

-- a range that begins one place earlier, and one that ends one place later
pub among-front : (stripes place count d s : ℕ) → 0 < stripes
    → is_among stripes place (1 + count) d s ≡ (is_pair (place / stripes) (place % stripes) d s || is_among stripes (place + 1) count d s)
among-front stripes place count d s some =
    both_ways (is_among stripes place (1 + count) d s) (is_pair (place / stripes) (place % stripes) d s || is_among stripes (place + 1) count d s)
    (λ is. let parts = among-parts stripes place (1 + count) d s is in
    ⊎_elim
    (λ here. or_left (is_pair (place / stripes) (place % stripes) d s) _ (place-pair stripes place d s parts.0 (eqb-true (d * stripes + s) place here)))
    (λ off. or_right (is_pair (place / stripes) (place % stripes) d s) _
    (among-from stripes (place + 1) count d s parts.0 (omega (arith, parts.1, eqb-false (d * stripes + s) place off)) (omega (arith, parts.2))))
    (cases_Bool (nat_eq (d * stripes + s) place)))
    (λ is.
    ⊎_elim
    (λ here. let at = pair-place stripes place d s here in among-from stripes place (1 + count) d s (low here) (omega (arith, at)) (omega (arith, at)))
    (λ later. let parts = among-parts stripes (place + 1) count d s later in
    among-from stripes place (1 + count) d s parts.0 (omega (arith, parts.1)) (omega (arith, parts.2)))
    (or_cases (is_pair (place / stripes) (place % stripes) d s) (is_among stripes (place + 1) count d s) is))
  where
    low : is_pair (place / stripes) (place % stripes) d s ≡ true → s < stripes
    low here = let same = pair-is (place / stripes) (place % stripes) d s here in rw same.1 (mod_below place stripes some)

pub among-back : (stripes first count d s : ℕ) → 0 < stripes
    → is_among stripes first (count + 1) d s ≡ (is_pair ((first + count) / stripes) ((first + count) % stripes) d s || is_among stripes first count d s)
among-back stripes first count d s some =
    both_ways (is_among stripes first (count + 1) d s) (is_pair ((first + count) / stripes) ((first + count) % stripes) d s || is_among stripes first count d s)
    (λ is. let parts = among-parts stripes first (count + 1) d s is in
    ⊎_elim
    (λ here. or_left (is_pair ((first + count) / stripes) ((first + count) % stripes) d s) _
    (place-pair stripes (first + count) d s parts.0 (eqb-true (d * stripes + s) (first + count) here)))
    (λ off. or_right (is_pair ((first + count) / stripes) ((first + count) % stripes) d s) _
    (among-from stripes first count d s parts.0 parts.1 (omega (arith, parts.2, eqb-false (d * stripes + s) (first + count) off))))
    (cases_Bool (nat_eq (d * stripes + s) (first + count))))
    (λ is.
    ⊎_elim
    (λ here. let at = pair-place stripes (first + count) d s here in among-from stripes first (count + 1) d s (low here) (omega (arith, at))
    (omega (arith, at)))
    (λ earlier. let parts = among-parts stripes first count d s earlier in among-from stripes first (count + 1) d s parts.0 parts.1 (omega (arith, parts.2)))
    (or_cases (is_pair ((first + count) / stripes) ((first + count) % stripes) d s) (is_among stripes first count d s) is))
  where
    low : is_pair ((first + count) / stripes) ((first + count) % stripes) d s ≡ true → s < stripes
    low here = let same = pair-is ((first + count) / stripes) ((first + count) % stripes) d s here in rw same.1 (mod_below (first + count) stripes some)

pub among-none : (stripes first d s : ℕ) → is_among stripes first 0 d s ≡ false
among-none stripes first d s = false_from_ne_true (is_among stripes first 0 d s)
    (λ is. let parts = among-parts stripes first 0 d s is in absurd (omega (arith, parts.1, parts.2)))

-- a longer range
pub among-more : (stripes first count more d s : ℕ) → count ≤ more → is_among stripes first count d s ≡ true → is_among stripes first more d s ≡ true
among-more stripes first count more d s within is =
    let parts = among-parts stripes first count d s is in among-from stripes first more d s parts.0 parts.1 (omega (arith, parts.2))

-- the place of a range, and one that isn't
pub among-place : (stripes first count place : ℕ) → 0 < stripes → first ≤ place → place < first + count →
    is_among stripes first count (place / stripes) (place % stripes) ≡ true
among-place stripes first count place some from below =
    let at = div-add-mod' place stripes in
    among-from stripes first count (place / stripes) (place % stripes) (mod_below place stripes some) (omega (arith, at, from)) (omega (arith, at, below))

pub not-among : (stripes first count place : ℕ) → (first ≤ place → place < first + count → ⊥) →
    is_among stripes first count (place / stripes) (place % stripes) ≡ false
not-among stripes first count place apart =
    false_from_ne_true (is_among stripes first count (place / stripes) (place % stripes))
    (λ is. let at = div-add-mod' place stripes in let parts = among-parts stripes first count (place / stripes) (place % stripes) is in
    apart (omega (arith, at, parts.1)) (omega (arith, at, parts.2)))

-- two places have two pairs
pub pairs-apart : (stripes place other : ℕ) → (other ≡ place → ⊥) → is_pair (place / stripes) (place % stripes) (other / stripes) (other % stripes) ≡ false
pairs-apart stripes place other apart =
    false_from_ne_true (is_pair (place / stripes) (place % stripes) (other / stripes) (other % stripes))
    (λ is. apart (sym (div-add-mod' other stripes) ∙ pair-place stripes place (other / stripes) (other % stripes) is))
