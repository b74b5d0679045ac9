-- Shards that the nodes know.
use Rattle.std.proofs.Common.{◌≡◌, ℕ, ◌<◌, Bool, true, false, List, length, get_or, refl, sym, ◌∙◌, ap, true≢false}
use Rattle.std.proofs.lemmas.List.Folds.{list_all_at}
use Rattle.sw_hashpath.specs.declared.secrets.Secrets.{Secrets}
use Rattle.sw_pass.specs.Rings.{is_place}
use Rattle.sw_shard_range.specs.declared.range.Range.{Range}
use Rattle.sw_sharded_listing.specs.Parts.{are_places}

pub place-at : (secrets : Secrets) (ranges : List Range) (i : ℕ) (range : Range) → are_places secrets ranges ≡ true → i < length ranges
    → range ≡ get_or ranges i range → is_place secrets range.shard ≡ true
place-at secrets ranges i range all within at = by (is_place secrets range.shard) refl
  where
    by : (b : Bool) → is_place secrets range.shard ≡ b → is_place secrets range.shard ≡ true
    by true is = is
    by false is =
        absurd (true≢false (sym all ∙ list_all_at (λ (r : Range). is_place secrets r.shard) ranges i range within
        (ap (λ (r : Range). is_place secrets r.shard) (sym at) ∙ is)))
