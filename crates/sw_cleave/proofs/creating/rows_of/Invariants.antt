-- The rows that were yielded were merged, one after the other, so no more numbers were given out.
use Rattle.std.proofs.Common.{◌≡◌, ◌≤◌, ◌<◌, ◌^◌, ◌++◌, fold, length}
use Rattle.std.specs.Vec.Iter.{into_iter_items, into_iter_len}
use Rattle.sw_rows.specs.Rows.{merged, no_rows}
use Rattle.sw_cleave.proofs.creating.rows_of.Given as goal

abbrev pub invariant-loop-row : goal.invariant-loop-row
invariant-loop-row l = record {
  rows : l.rows ≡ fold merged no_rows l.yielded;
  top : l.rows.top ≤ length l.yielded;
  whole : l.yielded ++ into_iter_items l.row-iterator ≡ l.fn.parcel.rows;
  count : into_iter_len l.row-iterator ≡ length (into_iter_items l.row-iterator);
  few : length l.fn.parcel.rows < 2 ^ 63;
}
