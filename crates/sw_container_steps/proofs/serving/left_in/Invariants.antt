use Rattle.std.proofs.Common.{◌≡◌, ◌++◌}
use Rattle.std.specs.List.{filter}
use Rattle.std.specs.Prelude.{is_none}
use Rattle.sw_container_steps.specs.Serving.{served, unserved}
use Rattle.sw_rows.specs.Left.{rows_left}
use Rattle.sw_container_steps.proofs.serving.left_in.Given as goal

-- the rows so far are those before the ones that are still looked at
abbrev pub invariant-loop-rowid : goal.invariant-loop-rowid
invariant-loop-rowid l =
    (l.left.list ++ filter (λ n. is_none (served l.tables n.row.name)) (rows_left l.rowid-iterator) ≡ unserved l.tables) × (l.left.top ≡ l.tables.rows.top)
