-- What has been put in are the rows before those that are left.
use Rattle.std.proofs.Common.{◌≡◌, ◌++◌}
use Rattle.sw_rows.specs.Left.{shared_left}
use Rattle.sw_rows.proofs.rows.Rows.of.Given as goal

abbrev pub invariant-loop-rowid : goal.invariant-loop-rowid
invariant-loop-rowid l = record {
  list : l.rows.list ++ shared_left l.rowid-iterator ≡ l.numbers;
  top : l.rows.top ≡ l.top;
}
