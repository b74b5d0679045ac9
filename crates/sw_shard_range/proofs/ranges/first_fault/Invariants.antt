-- The ranges before the index fit, and the bound is where they end.
use Rattle.std.proofs.Common.{◌≡◌, [], ◌∷◌, ◌++◌, drop}
use Rattle.sw_shard_range.specs.Ranges.{fault_from, first_fault}
use Rattle.sw_shard_range.proofs.ranges.first_fault.Given as goal

abbrev pub invariant-loop-range : goal.invariant-loop-range
invariant-loop-range l = record {
  rest : fault_from l.bound l.index (drop l.range-index l.inner ++ l.last ∷ []) ≡ first_fault l.list;
  counted : l.index ≡ l.range-index;
}
