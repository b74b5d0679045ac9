-- What has been copied are the rows before those that are left.
use Rattle.std.proofs.Common.{◌≡◌, ◌++◌}
use Rattle.sw_rows.specs.Rows.{rows_above}
use Rattle.sw_rows.proofs.Above.{values_in}
use Rattle.sw_rows.proofs.numbers.Numbers.copies_above.Given as goal

abbrev pub invariant-loop-row : goal.invariant-loop-row
invariant-loop-row l = l.rows.items ++ values_in l.row-iterator ≡ rows_above l.rowid l.self
