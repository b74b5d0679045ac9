use Rattle.std.proofs.Common.{◌≡◌}
use Rattle.std.specs.List.{find}
use Rattle.sw_container_steps.specs.Serving.{is_of_range}
use Rattle.sw_rows.specs.Left.{rows_left}
use Rattle.sw_container_steps.proofs.refusing.later_row.Given as goal

-- no row so far is one
abbrev pub invariant-loop-number : goal.invariant-loop-number
invariant-loop-number l =
    find (is_of_range l.ranges l.range l.rowid) (rows_left l.number-iterator) ≡ find (is_of_range l.ranges l.range l.rowid) l.tables.rows.list
