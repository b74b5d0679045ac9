-- The ranges into which bounds cut all names.
use Rattle.std.proofs.Common.{◌≡◌, ℕ, ◌+◌, suc, List, [], ◌∷◌, ◌++◌, length, Option, None, Some, refl, sym, subst, arith}
use Rattle.std.specs.Bool.{⊤}
use Rattle.std.specs.List.{All}
use Rattle.std.specs.Prelude.{MatchOption}
use Rattle.std.proofs.lemmas.List.Elements.{All-cons, All-nil}
use Rattle.sw_cleave.specs.Cutting.{AreCut, AreCutFrom, CantCut, IsCutInto, IsRangeBetween}
use Rattle.sw_hashpath.specs.Places.{IsPlace}
use Rattle.sw_hashpath.specs.declared.place.Place.{Place}
use Rattle.sw_hashpath.specs.declared.secrets.Secrets.{Secrets}
use Rattle.sw_shard_range.specs.Laws.{AreTiled}
use Rattle.sw_shard_range.specs.declared.range.Range.{Range}

-- the bound at which these end, which begin at this one
abbrev pub end_of : List ℕ → List (List ℕ) → List ℕ
end_of lower [] = lower
end_of lower (bound ∷ bounds) = end_of bound bounds

pub end-more : (lower : List ℕ) (bounds : List (List ℕ)) (bound : List ℕ) → end_of lower (bounds ++ bound ∷ []) ≡ bound
end-more lower [] bound = refl
end-more lower (b ∷ bounds) bound = end-more b bounds bound

module _ (secrets : Secrets) (place : Place) (time : ℕ) where
  -- one range below each bound, from this index and bound on
  abbrev pub AreBelow : ℕ → List ℕ → List (List ℕ) → List Range → Type 0
  AreBelow index lower [] [] = ⊤
  AreBelow index lower [] (range ∷ ranges) = ⊥
  AreBelow index lower (bound ∷ bounds) [] = ⊥
  AreBelow index lower (bound ∷ bounds) (range ∷ ranges) =
      IsRangeBetween secrets place time index lower bound range × AreBelow (suc index) bound bounds ranges

  pub below-more : (index : ℕ) (lower : List ℕ) (bounds : List (List ℕ)) (ranges : List Range) (at : ℕ) (bound : List ℕ) (range : Range)
      → AreBelow index lower bounds ranges → at ≡ index + length bounds → IsRangeBetween secrets place time at (end_of lower bounds) bound range
      → AreBelow index lower (bounds ++ bound ∷ []) (ranges ++ range ∷ [])
  below-more index lower [] [] at bound range are here is =
      let same : at ≡ index = omega arith in
      (subst (λ (n : ℕ). IsRangeBetween secrets place time n lower bound range) same is, tt)
  below-more index lower [] (r ∷ ranges) at bound range are here is = absurd are
  below-more index lower (b ∷ bounds) [] at bound range are here is = absurd are
  below-more index lower (b ∷ bounds) (r ∷ ranges) at bound range are here is =
      (are.0, below-more (suc index) b bounds ranges at bound range are.1 (omega arith) is)

  pub below-last : (index : ℕ) (lower : List ℕ) (bounds : List (List ℕ)) (ranges : List Range) (at : ℕ) (range : Range)
      → AreBelow index lower bounds ranges → at ≡ index + length bounds → IsRangeBetween secrets place time at (end_of lower bounds) [] range
      → AreCutFrom secrets place time index lower bounds (ranges ++ range ∷ [])
  below-last index lower [] [] at range are here is =
      let same : at ≡ index = omega arith in
      subst (λ (n : ℕ). IsRangeBetween secrets place time n lower [] range) same is
  below-last index lower [] (r ∷ ranges) at range are here is = absurd are
  below-last index lower (b ∷ bounds) [] at range are here is = absurd are
  below-last index lower (b ∷ bounds) (r ∷ ranges) at range are here is =
      (are.0, below-last (suc index) b bounds ranges at range are.1 (omega arith) is)

  -- a shard of such a range is a place
  between-place : (index : ℕ) (lower upper : List ℕ) (range : Range) → IsRangeBetween secrets place time index lower upper range
      → IsPlace secrets range.shard
  between-place index lower upper range is =
      subst (λ (x : Place). IsPlace secrets x) (sym is.shard_is) (record { good = is.good; hashed = refl })

  cut-places-from : (index : ℕ) (lower : List ℕ) (bounds : List (List ℕ)) (ranges : List Range) → AreCutFrom secrets place time index lower bounds ranges
      → All (λ r. IsPlace secrets r.shard) ranges
  cut-places-from index lower bounds [] are = absurd are
  cut-places-from index lower [] (range ∷ []) are =
      All-cons (λ (r : Range). IsPlace secrets r.shard) range [] (between-place index lower [] range are) (All-nil (λ (r : Range). IsPlace secrets r.shard))
  cut-places-from index lower [] (range ∷ r ∷ ranges) are = absurd are
  cut-places-from index lower (bound ∷ bounds) (range ∷ ranges) are =
      All-cons (λ (r : Range). IsPlace secrets r.shard) range ranges (between-place index lower bound range are.0)
      (cut-places-from (suc index) bound bounds ranges are.1)

  pub cut-places : (bounds : List (List ℕ)) (ranges : List Range) → AreCut secrets place time bounds ranges → All (λ r. IsPlace secrets r.shard) ranges
  cut-places bounds ranges are = cut-places-from 0 [] bounds ranges are

  -- what cutting came to, at bounds that are known
  pub cut-into : (bounds known : List (List ℕ)) (cut into : Option (List Range)) → bounds ≡ known → cut ≡ into
      → MatchOption cut (CantCut secrets place time bounds) (λ ranges. AreCut secrets place time bounds ranges × AreTiled ranges)
      → IsCutInto secrets place time known into
  cut-into bounds known cut into are is told =
      subst (λ (bs : List (List ℕ)). IsCutInto secrets place time bs into) are
      (by into (subst (λ (o : Option (List Range)). MatchOption o (CantCut secrets place time bounds)
      (λ ranges. AreCut secrets place time bounds ranges × AreTiled ranges)) is told))
    where
      by : (o : Option (List Range)) → MatchOption o (CantCut secrets place time bounds) (λ ranges. AreCut secrets place time bounds ranges × AreTiled ranges)
          → IsCutInto secrets place time bounds o
      by (Some ranges) came = came
      by None came = came
