-- The ranges are those of the rows before the index.
use Rattle.std.proofs.Common.{◌≡◌, take}
use Rattle.sw_container_store.specs.Values.{range_rows}
use Rattle.sw_container_store.proofs.reading_ranges.ranges_of.Given as goal

abbrev pub invariant-loop-row : goal.invariant-loop-row
invariant-loop-row l = range_rows 0 l.list.items ≡ take l.row-index l.rows
