-- Items of a list by their places.
use Rattle.std.proofs.Common.{◌≡◌, ℕ, ◌+◌, ◌-◌, ◌<◌, suc, List, [], ◌∷◌, length, get_or, drop, sym, ◌∙◌, ap, arith, Some}
use Rattle.std.proofs.lemmas.List.{drop_more}
use Rattle.std.proofs.lemmas.Option.{get_or_from_slice_get, slice_get_within}
use Rattle.std.specs.List.{slice_get}
use Rattle.sw_shard_range.specs.declared.range.Range.{Range}
use Rattle.sw_sharded_listing.specs.Parts.{end_of}

-- the last range ends them
pub end-last : (bound : List ℕ) (ranges : List Range) (range : Range) → slice_get ranges (length ranges - 1) ≡ Some range → end_of bound ranges ≡ range.upper
end-last bound [] range last = cc
end-last bound (r ∷ []) range last = ap (λ (x : Range). x.upper) (some r range last)
  where
    some : (x y : Range) → Some x ≡ Some y → x ≡ y
    some x y same = cc
end-last bound (r ∷ q ∷ ranges) range last =
    end-last r.upper (q ∷ ranges) range (ap (slice_get (r ∷ q ∷ ranges)) (sym (less (length ranges))) ∙ last)
  where
    less : (n : ℕ) → suc (suc n) - 1 ≡ suc (suc n - 1)
    less n = omega arith

module _ {A : Type 0} where
  -- the item at an index, and those behind it
  pub here : (xs : List A) (i : ℕ) (x : A) → i < length xs → x ≡ get_or xs i x → drop i xs ≡ x ∷ drop (i + 1) xs
  here xs i x less is = drop_more xs i x less ∙ ap (λ (y : A). y ∷ drop (i + 1) xs) (sym is)

  pub at-here : (xs : List A) (i : ℕ) (x : A) → slice_get xs i ≡ Some x → drop i xs ≡ x ∷ drop (i + 1) xs
  at-here xs i x at = here xs i x (slice_get_within xs i x at) (sym (get_or_from_slice_get xs i x x at))
