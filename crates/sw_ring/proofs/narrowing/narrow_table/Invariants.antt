-- What has been narrowed are the rows before the index.
use Rattle.std.proofs.Common.{◌≡◌, take}
use Rattle.sw_ring.proofs.narrowing.narrow_table.Given as goal

abbrev pub invariant-loop-row : goal.invariant-loop-row
invariant-loop-row l = l.rows.items ≡ take l.row-index l.table
