-- What is promised of the definitions on shard ranges. (This project's own.)
use Rattle.std.specs.Prelude.{◌≡◌, ◌↔◌, ℕ, ◌<◌, ◌^◌, true, List, length, None, Some}
use Rattle.std.specs.Cmp.Lexicographic.{slice_cmp}
use Rattle.std.specs.List.{slice_get}
use Rattle.std.specs.List.Sorted.{IsStrictlySortedBy}
use Rattle.std.specs.Ordering.{nat_cmp}
use Rattle.sw_rows.specs.declared.numbered.Numbered.{Numbered}
use Rattle.sw_shard_range.specs.Bounds.{inner_bounds}
use Rattle.sw_shard_range.specs.Ranges.{first_fault, has, index_in}
use Rattle.sw_shard_range.specs.ShardNames.{shard_container}
use Rattle.sw_shard_range.specs.declared.range.Range.{Range}

-- the ranges are all names, each once
abbrev pub AreTiled : List Range → Type 0
AreTiled ranges = first_fault ranges ≡ None

-- the index of a name is that of a range
abbrev pub IsInARange : Type 0
IsInARange = (ranges : List Range) (name : List ℕ) → AreTiled ranges → index_in ranges name < length ranges

-- the range of that index has the name, and no other range has it
abbrev pub IsInOneRange : Type 0
IsInOneRange = (ranges : List Range) (name : List ℕ) (index : ℕ) (range : Range) → AreTiled ranges → slice_get ranges index ≡ Some range
    → (has range name ≡ true) ↔ (index ≡ index_in ranges name)

-- each inner bound is above the one before
abbrev pub BoundsRise : Type 0
BoundsRise = (per_shard : ℕ) (list : List Numbered) → IsStrictlySortedBy (slice_cmp nat_cmp) (inner_bounds per_shard list)

-- two shards of one container and time with two indexes have two names
abbrev pub ShardNamesDiffer : Type 0
ShardNamesDiffer = (container : List ℕ) (time i j : ℕ) → i < 2 ^ 32 → j < 2 ^ 32
    → shard_container container time i ≡ shard_container container time j → i ≡ j
