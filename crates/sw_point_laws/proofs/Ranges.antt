-- Ranges, and the ways that a ledger has of them.
use Rattle.std.proofs.Common.{◌≡◌, ℕ, zero, suc, true, List, [], ◌∷◌, Some, ap}
use Rattle.std.proofs.lemmas.List.Elements.{All-contains_itself, All-weaker}
use Rattle.std.specs.List.{All, Contains, slice_get}
use Rattle.sw_hashpath.specs.declared.place.Place.{Place}
use Rattle.sw_shard_laws.specs.Ledger.{shard_in}
use Rattle.sw_shard_range.specs.Names.{is_hidden}
use Rattle.sw_shard_range.specs.declared.range.Range.{Range}
use Rattle.sw_split_steps.specs.Tables.{ways_of}
use Rattle.sw_point_laws.proofs.Among.{behind, in-front}

-- a range leads to its shard
pub shard-of : (ranges : List Range) (index : ℕ) (range : Range) → slice_get ranges index ≡ Some range → shard_in (ways_of ranges) index ≡ Some range.shard
shard-of [] index range is = cc
shard-of (r ∷ rs) zero range is = let same : r ≡ range = cc in ap (λ (x : Range). Some x.shard) same
shard-of (r ∷ rs) (suc index) range is = shard-of rs index range is

-- a shard is that of one of the ranges
pub range-of : (ranges : List Range) (index : ℕ) (shard : Place) → shard_in (ways_of ranges) index ≡ Some shard
    → (range : Range) × Contains ranges range × (range.shard ≡ shard)
range-of [] index shard is = cc
range-of (r ∷ rs) zero shard is = let same : r.shard ≡ shard = cc in (r, in-front r rs, same)
range-of (r ∷ rs) (suc index) shard is = let rest = range-of rs index shard is in (rest.0, behind r rs rest.0 rest.1, rest.2)

-- the shard of each is hidden
pub all-hidden : (ranges : List Range) → All (λ r. is_hidden r.shard ≡ true) ranges
all-hidden ranges =
    All-weaker (Contains ranges) (λ (r : Range). is_hidden r.shard ≡ true) (λ r inside. r.hidden) ranges (All-contains_itself ranges)
