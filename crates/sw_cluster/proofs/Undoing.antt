-- What is out, and what rests in the stores, after volumes and keepers were started, and after they were given back before a session began.
use Rattle.std.proofs.Common.{◌≡◌, ◌∙◌, ℕ, zero, suc, ◌+◌, ◌*◌, ◌%◌, ◌<◌, ◌⊎◌, Bool, true, false, List, [], ◌∷◌, length, Option, Some, refl, sym, ap, subst}
use Rattle.std.proofs.Common.{arith, inl, inr, ◌||◌}
use Rattle.std.specs.List.{slice_get}
use Rattle.std.proofs.lemmas.Bool.{cases_Bool}
use Rattle.std.proofs.lemmas.Nat.{div-mul-add, mod-mul-add}
use Rattle.sw_stores.proofs.AtPlaces.{resting-at, started-at}
use Rattle.sw_stores.specs.Places.{GoOut, IsSameBut, at_place, is_among}
use Rattle.sw_stores.specs.Starting.{AllRestAgain, AreResting, AreStarted, RestsAgain, StartsFrom}
use Rattle.sw_cluster.proofs.Resting.{among-parts}

-- the place of a pair
at-pair : {T : Type 0} (told : ℕ → ℕ → T) (stripes d s : ℕ) → s < stripes → at_place told stripes (0 + (d * stripes + s)) ≡ told d s
at-pair told stripes d s low =
    let here : 0 + (d * stripes + s) ≡ d * stripes + s = omega arith in
    ap (λ (p : ℕ). at_place told stripes p) here ∙ (ap (λ (x : ℕ). told x ((d * stripes + s) % stripes)) (div-mul-add d stripes s low)
    ∙ ap (λ (x : ℕ). told d x) (mod-mul-add d stripes s low))

module _ {V K : Type 0} where
  found-at : (parts : List (V × K)) (i : ℕ) → i < length parts → (part : V × K) × (slice_get parts i ≡ Some part)
  found-at [] i below = absurd (omega (arith, below))
  found-at (part ∷ parts) zero below = (part, refl)
  found-at (part ∷ parts) (suc i) below = found-at parts i (omega (arith, below))

module _ {V K : Type 0} (first : V × K → Type 0) where
  -- a start failed: of the places that were tried something rests again, and of the others what did
  pub undone : (chosen : ℕ → ℕ → Bool) (old new : ℕ → ℕ → Option (V × K)) → AllRestAgain first chosen old new → IsSameBut chosen old new
      → (d s : ℕ) → RestsAgain first (old d s) (new d s)
  undone chosen old new again others d s = by (cases_Bool (chosen d s))
    where
      by : (chosen d s ≡ true) ⊎ (chosen d s ≡ false) → RestsAgain first (old d s) (new d s)
      by (inl is) = again d s is
      by (inr off) = inl (others d s off)

  -- all were started, and given back
  pub given-back : (stripes count : ℕ) (old mid new : ℕ → ℕ → Option (V × K)) (all : List (V × K)) → length all ≡ count
      → AreStarted first old stripes 0 all → IsSameBut (is_among stripes 0 count) old mid
      → AreResting new stripes 0 all → IsSameBut (is_among stripes 0 (length all)) mid new
      → (d s : ℕ) → RestsAgain first (old d s) (new d s)
  given-back stripes count old mid new all same started apart resting others d s = by (cases_Bool (is_among stripes 0 (length all) d s))
    where
      by : (is_among stripes 0 (length all) d s ≡ true) ⊎ (is_among stripes 0 (length all) d s ≡ false) → RestsAgain first (old d s) (new d s)
      by (inl is) =
          let parts = among-parts stripes 0 (length all) d s is in
          let found = found-at all (d * stripes + s) (omega (arith, parts.2)) in
          inr (
            found.0,
            subst (λ (r : Option (V × K)). StartsFrom first r found.0) (at-pair old stripes d s parts.0)
                (started-at first old stripes 0 all (d * stripes + s) found.0 started found.1),
            sym (at-pair new stripes d s parts.0) ∙ resting-at new stripes 0 all (d * stripes + s) found.0 resting found.1,
          )
      by (inr off) = inl (others d s off ∙ apart d s (subst (λ (n : ℕ). is_among stripes 0 n d s ≡ false) same off))

or-none : (b : Bool) → (b || false) ≡ b
or-none true = refl
or-none false = refl

-- where nothing was out, what is out is what was started
pub went-out : (chosen old new : ℕ → ℕ → Bool) → GoOut chosen old new → ((d s : ℕ) → old d s ≡ false) → (d s : ℕ) → new d s ≡ chosen d s
went-out chosen old new gone home d s = gone d s ∙ (ap (λ (b : Bool). chosen d s || b) (home d s) ∙ or-none (chosen d s))
