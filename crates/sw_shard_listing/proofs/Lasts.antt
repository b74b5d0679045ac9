-- The last entry of a list, by its place.
use Rattle.std.proofs.Common.{◌≡◌, ℕ, ◌-◌, suc, List, [], ◌∷◌, length, refl, ◌∙◌, ap, arith}
use Rattle.std.specs.List.{slice_get}
use Rattle.sw_listing.specs.declared.entry.Entry.{Entry}
use Rattle.sw_shard_listing.specs.Ranges.{last_entry}

pub last-get : (es : List Entry) → slice_get es (length es - 1) ≡ last_entry es
last-get [] = refl
last-get (e ∷ []) = refl
last-get (e ∷ f ∷ es) = ap (slice_get (e ∷ f ∷ es)) (less (length es)) ∙ last-get (f ∷ es)
  where
    less : (n : ℕ) → suc (suc n) - 1 ≡ suc (suc n - 1)
    less n = omega arith
