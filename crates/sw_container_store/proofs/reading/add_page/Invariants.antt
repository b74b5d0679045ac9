-- The rows before the index stand behind the others, and the greatest number is the same.
use Rattle.std.proofs.Common.{◌≡◌, ◌++◌, map, take}
use Rattle.sw_container_store.specs.Values.{numbered_values}
use Rattle.sw_container_store.proofs.reading.add_page.Given as goal

abbrev pub invariant-loop-row : goal.invariant-loop-row
invariant-loop-row l = record {
  rows : map numbered_values l.rows.list ≡ map numbered_values l.initial.rows.list ++ take l.row-index l.page;
  top : l.rows.top ≡ l.initial.rows.top;
}
