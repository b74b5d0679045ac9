-- What the clauses on ranges say of one place, for the crates above.
use Rattle.std.proofs.Common.{◌≡◌, ◌∙◌, ℕ, zero, suc, ◌+◌, ◌-◌, ◌*◌, ◌/◌, ◌%◌, ◌<◌, ◌≤◌, Bool, true, false, not, List, [], ◌∷◌, Option, Some, ap, subst, inl}
use Rattle.std.proofs.Common.{inr, arith, ⊎_elim, ◌⊎◌}
use Rattle.std.specs.Prelude.{slice_get, ◌&&◌, ◌||◌}
use Rattle.std.proofs.lemmas.Bool.{or_cases, or_left, or_right}
use Rattle.std.proofs.lemmas.Nat.{div-mul-add, mod-mul-add}
use Rattle.sw_stores.specs.Places.{at_place, AreHome, AreOut, ComeHome, GoOut, is_among, is_around, IsAsItWas, IsSameBut}
use Rattle.sw_stores.specs.Starting.{AreResting, AreStarted, StartsFrom}
use Rattle.sw_stores.proofs.Places.{among-parts, among-place, not-among}

module _ {T : Type 0} (old new : ℕ → ℕ → T) (stripes place : ℕ) where
  pub same-everywhere : IsAsItWas old new → at_place new stripes place ≡ at_place old stripes place
  same-everywhere same = same (place / stripes) (place % stripes)

  -- a place outside of the range is what it was
  pub same-outside : (first count : ℕ) → IsSameBut (is_among stripes first count) old new → (first ≤ place → place < first + count → ⊥) →
      at_place new stripes place ≡ at_place old stripes place
  same-outside first count same apart = same (place / stripes) (place % stripes) (not-among stripes first count place apart)

module _ (old new : ℕ → ℕ → Bool) (stripes place first count : ℕ) where
  pub out-inside : 0 < stripes → GoOut (is_among stripes first count) old new → first ≤ place → place < first + count → at_place new stripes place ≡ true
  out-inside some gone from below = gone (place / stripes) (place % stripes) ∙ ap (λ b. b || at_place old stripes place)
      (among-place stripes first count place some from below)

  pub out-outside : GoOut (is_among stripes first count) old new → (first ≤ place → place < first + count → ⊥) →
      at_place new stripes place ≡ at_place old stripes place
  out-outside gone apart = gone (place / stripes) (place % stripes) ∙ ap (λ b. b || at_place old stripes place) (not-among stripes first count place apart)

  pub home-inside : 0 < stripes → ComeHome (is_among stripes first count) old new → first ≤ place → place < first + count → at_place new stripes place ≡ false
  home-inside some home from below = home (place / stripes) (place % stripes) ∙ ap (λ b. not b && at_place old stripes place)
      (among-place stripes first count place some from below)

  pub home-outside : ComeHome (is_among stripes first count) old new → (first ≤ place → place < first + count → ⊥) →
      at_place new stripes place ≡ at_place old stripes place
  home-outside home apart = home (place / stripes) (place % stripes) ∙ ap (λ b. not b && at_place old stripes place) (not-among stripes first count place apart)

module _ (out : ℕ → ℕ → Bool) (stripes first count : ℕ) where
  each-place : (b : Bool) → ((place : ℕ) → first ≤ place → place < first + count → at_place out stripes place ≡ b) → (d s : ℕ) →
      is_among stripes first count d s ≡ true → out d s ≡ b
  each-place b each d s is =
      let parts = among-parts stripes first count d s is in
      subst (λ x. out d x ≡ b) (mod-mul-add d stripes s parts.0)
      (subst (λ x. out x ((d * stripes + s) % stripes) ≡ b) (div-mul-add d stripes s parts.0) (each (d * stripes + s) parts.1 parts.2))

  -- what is so at each place of the range
  pub home-each : ((place : ℕ) → first ≤ place → place < first + count → at_place out stripes place ≡ false) → AreHome (is_among stripes first count) out
  home-each each = each-place false each

  pub out-each : ((place : ℕ) → first ≤ place → place < first + count → at_place out stripes place ≡ true) → AreOut (is_among stripes first count) out
  out-each each = each-place true each

-- a place around a gap, and one in it
module _ (stripes first past count place : ℕ) where
  around-inside : 0 < stripes → place < count → (place < first) ⊎ (past ≤ place)
      → is_around stripes first past count (place / stripes) (place % stripes) ≡ true
  around-inside some below (inl before) =
      or_left (is_among stripes 0 first (place / stripes) (place % stripes)) _ (among-place stripes 0 first place some (omega arith) (omega arith))
  around-inside some below (inr behind) =
      or_right (is_among stripes 0 first (place / stripes) (place % stripes)) _ (among-place stripes past (count - past) place some behind (omega arith))

  around-outside : first ≤ place → place < past → is_around stripes first past count (place / stripes) (place % stripes) ≡ false
  around-outside from below =
      let before : is_among stripes 0 first (place / stripes) (place % stripes) ≡ false =
      not-among stripes 0 first place (λ reached under. absurd (omega arith)) in
      let behind : is_among stripes past (count - past) (place / stripes) (place % stripes) ≡ false =
      not-among stripes past (count - past) place (λ reached under. absurd (omega arith)) in
      ap (λ b. b || is_among stripes past (count - past) (place / stripes) (place % stripes)) before ∙ behind

  pub home-around : (old new : ℕ → ℕ → Bool) → 0 < stripes → ComeHome (is_around stripes first past count) old new → place < count →
      (place < first) ⊎ (past ≤ place)
      → at_place new stripes place ≡ false
  home-around old new some home below where_is =
      home (place / stripes) (place % stripes) ∙ ap (λ b. not b && at_place old stripes place) (around-inside some below where_is)

  pub home-in_gap : (old new : ℕ → ℕ → Bool) → ComeHome (is_around stripes first past count) old new → first ≤ place → place < past
      → at_place new stripes place ≡ at_place old stripes place
  home-in_gap old new home from below = home (place / stripes) (place % stripes) ∙ ap (λ b. not b && at_place old stripes place) (around-outside from below)

  pub same-in_gap : {T : Type 0} (old new : ℕ → ℕ → T) → IsSameBut (is_around stripes first past count) old new → first ≤ place → place < past
      → at_place new stripes place ≡ at_place old stripes place
  same-in_gap old new same from below = same (place / stripes) (place % stripes) (around-outside from below)

-- what is so at each place around a gap
pub out-around : (out : ℕ → ℕ → Bool) (stripes first past count : ℕ) → first ≤ past → past ≤ count
    → ((place : ℕ) → place < count → (place < first) ⊎ (past ≤ place) → at_place out stripes place ≡ true) → AreOut (is_around stripes first past count) out
out-around out stripes first past count apart within each d s is =
    ⊎_elim
    (λ before. out-each out stripes 0 first (λ place from below. each place (omega arith) (inl (omega arith))) d s before)
    (λ behind. out-each out stripes past (count - past) (λ place from below. each place (omega arith) (inr from)) d s behind)
    (or_cases (is_among stripes 0 first d s) (is_among stripes past (count - past) d s) is)

module _ {V : Type 0} where
  -- the volume of a number
  pub started-at : (first_is : V → Type 0) (rests : ℕ → ℕ → Option V) (stripes first : ℕ) (volumes : List V) (i : ℕ) (v : V) →
      AreStarted first_is rests stripes first volumes
      → slice_get volumes i ≡ Some v → StartsFrom first_is (at_place rests stripes (first + i)) v
  started-at first_is rests stripes first [] i v started at = cc
  started-at first_is rests stripes first (u ∷ volumes) zero v started at =
      let here : first ≡ first + 0 = omega arith in
      let same : u ≡ v = cc in
      subst (λ p. StartsFrom first_is (at_place rests stripes p) v) here (subst (λ w. StartsFrom first_is (at_place rests stripes first) w) same started.0)
  started-at first_is rests stripes first (u ∷ volumes) (suc i) v started at =
      let here : first + 1 + i ≡ first + suc i = omega arith in
      subst (λ p. StartsFrom first_is (at_place rests stripes p) v) here (started-at first_is rests stripes (first + 1) volumes i v started.1 at)

  pub resting-at : (rests : ℕ → ℕ → Option V) (stripes first : ℕ) (volumes : List V) (i : ℕ) (v : V) → AreResting rests stripes first volumes
      → slice_get volumes i ≡ Some v → at_place rests stripes (first + i) ≡ Some v
  resting-at rests stripes first [] i v resting at = cc
  resting-at rests stripes first (u ∷ volumes) zero v resting at =
      let here : first + 0 ≡ first = omega arith in
      ap (λ p. at_place rests stripes p) here ∙ resting.0 ∙ at
  resting-at rests stripes first (u ∷ volumes) (suc i) v resting at =
      let here : first + suc i ≡ first + 1 + i = omega arith in
      ap (λ p. at_place rests stripes p) here ∙ resting-at rests stripes (first + 1) volumes i v resting.1 at
