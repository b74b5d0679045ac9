-- Shard ranges under their indexes.
use Rattle.std.proofs.Common.{◌≡◌, ◌∙◌, ℕ, ◌+◌, ◌<◌, List, [], ◌∷◌, ◌++◌, length, take, map, ap, arith, length-take-le}
use Rattle.std.proofs.lemmas.List.{map-append}
use Rattle.sqlite_value.specs.Order.{Row as SqlRow}
use Rattle.sw_shard_range.specs.declared.range.Range.{Range}
use Rattle.sw_container_store.specs.Values.{range_asked, range_rows, range_values}

-- one more behind the others
pub rows-more : (from at : ℕ) (ranges : List Range) (range : Range) → at ≡ from + length ranges
    → range_rows from (ranges ++ range ∷ []) ≡ range_rows from ranges ++ range_values at range ∷ []
rows-more from at [] range is =
    let same : from ≡ at = omega (arith, is) in
    ap (λ (index : ℕ). range_values index range ∷ []) same
rows-more from at (first ∷ ranges) range is =
    let next : at ≡ (from + 1) + length ranges = omega (arith, is) in
    ap (λ (rows : List SqlRow). range_values from first ∷ rows) (rows-more (from + 1) at ranges range next)

-- what puts the first of them, and one more
pub asked-more : (ranges : List Range) (i : ℕ) (range : Range) → i < length ranges → take (i + 1) ranges ≡ take i ranges ++ range ∷ []
    → map range_asked (range_rows 0 (take (i + 1) ranges)) ≡ map range_asked (range_rows 0 (take i ranges)) ++ range_asked (range_values i range) ∷ []
asked-more ranges i range within next =
    let at : i ≡ 0 + length (take i ranges) = omega (arith, length-take-le i ranges (omega (arith, within))) in
    ap (λ (list : List Range). map range_asked (range_rows 0 list)) next
    ∙ (ap (λ (rows : List SqlRow). map range_asked rows) (rows-more 0 i (take i ranges) range at)
    ∙ map-append range_asked (range_rows 0 (take i ranges)) (range_values i range ∷ []))
