-- Ranges that are cut at bounds that rise.
use Rattle.std.proofs.Common.{◌≡◌, ℕ, ◌+◌, suc, true, false, List, [], ◌∷◌, None, ap, refl, subst, sym}
use Rattle.std.proofs.lemmas.List.Elements.{All-head}
use Rattle.std.proofs.lemmas.Slice.Eq.{bytes_eq-Decides}
use Rattle.std.specs.Bool.{⊤}
use Rattle.std.specs.Cmp.Lexicographic.{slice_cmp}
use Rattle.std.specs.List.{All}
use Rattle.std.specs.List.Sorted.{IsStrictlySortedBy}
use Rattle.std.specs.Ordering.{is_lt, nat_cmp}
use Rattle.std.specs.Str.{bytes_eq}
use Rattle.sw_cleave.specs.Cutting.{AreCutFrom, IsRangeBetween}
use Rattle.sw_cleave.specs.Laws.{CutsAreTiled}
use Rattle.sw_hashpath.specs.declared.place.Place.{Place}
use Rattle.sw_hashpath.specs.declared.secrets.Secrets.{Secrets}
use Rattle.sw_shard_range.specs.Names.{is_above, is_empty}
use Rattle.sw_shard_range.specs.Ranges.{fault_from, fits_inside, fits_last}
use Rattle.sw_shard_range.specs.declared.range.Range.{Range}

-- ---- each bound is above the one before it

abbrev Rises : List ℕ → List (List ℕ) → Type 0
Rises lower [] = ⊤
Rises lower (bound ∷ bounds) = (is_above bound lower ≡ true) × Rises bound bounds

rises-behind : (bound : List ℕ) (bounds : List (List ℕ)) → IsStrictlySortedBy (slice_cmp nat_cmp) (bound ∷ bounds) → Rises bound bounds
unfolding IsStrictlySortedBy
rises-behind bound [] sorted = tt
rises-behind bound (next ∷ bounds) sorted = (ap is_lt sorted.0.0, rises-behind next bounds sorted.1)

some-above : (bound : List ℕ) → is_empty bound ≡ false → is_above bound [] ≡ true
some-above [] some = cc
some-above (b ∷ bound) some = refl

rises : (bounds : List (List ℕ)) → IsStrictlySortedBy (slice_cmp nat_cmp) bounds → All (λ bound. is_empty bound ≡ false) bounds → Rises [] bounds
rises [] sorted some = tt
rises (bound ∷ bounds) sorted some =
    (some-above bound (All-head (λ (b : List ℕ). is_empty b ≡ false) bound bounds some), rises-behind bound bounds sorted)

-- ---- no range is at fault

same : (text : List ℕ) → bytes_eq text text ≡ true
same text = (bytes_eq-Decides text text).1 refl

module _ (secrets : Secrets) (place : Place) (time : ℕ) where
  fits-inside : (index : ℕ) (lower upper : List ℕ) (range : Range) → IsRangeBetween secrets place time index lower upper range → is_above upper lower ≡ true
      → fits_inside lower range ≡ true
  fits-inside index lower upper range is above = rw (is.lower_is, is.upper_is, same lower, above) refl

  fits-last : (index : ℕ) (lower : List ℕ) (range : Range) → IsRangeBetween secrets place time index lower [] range → fits_last lower range ≡ true
  fits-last index lower range is = rw (is.lower_is, is.upper_is, same lower) refl

  tiled-from : (index : ℕ) (lower : List ℕ) (bounds : List (List ℕ)) (ranges : List Range) (at : ℕ) → AreCutFrom secrets place time index lower bounds ranges
      → Rises lower bounds → fault_from lower at ranges ≡ None
  tiled-from index lower bounds [] at are up = absurd are
  tiled-from index lower [] (range ∷ []) at are up = rw (fits-last index lower range are) refl
  tiled-from index lower [] (range ∷ r ∷ ranges) at are up = absurd are
  tiled-from index lower (bound ∷ bounds) (range ∷ []) at are up = absurd (none bounds are.1)
    where
      none : (bs : List (List ℕ)) → AreCutFrom secrets place time (suc index) bound bs [] → ⊥
      none bs are = are
  tiled-from index lower (bound ∷ bounds) (range ∷ r ∷ ranges) at are up =
      let rest : fault_from bound (at + 1) (r ∷ ranges) ≡ None = tiled-from (suc index) bound bounds (r ∷ ranges) (at + 1) are.1 up.1 in
      let next : fault_from range.upper (at + 1) (r ∷ ranges) ≡ None =
      subst (λ (b : List ℕ). fault_from b (at + 1) (r ∷ ranges) ≡ None) (sym are.0.upper_is) rest in
      rw (fits-inside index lower bound range are.0 up.0) next

pub cuts-are-tiled : CutsAreTiled
cuts-are-tiled secrets place time bounds ranges sorted some are = tiled-from secrets place time 0 [] bounds ranges 0 are (rises bounds sorted some)
