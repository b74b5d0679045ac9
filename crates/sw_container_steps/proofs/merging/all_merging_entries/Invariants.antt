use Rattle.std.proofs.Common.{◌≤◌, ◌++◌, length}
use Rattle.sw_container_steps.specs.Entries.{rows_of}
use Rattle.sw_container_steps.specs.Steps.{merging_entries}
use Rattle.sw_container_steps.proofs.Over.{Kept}
use Rattle.sw_container_steps.proofs.merging.all_merging_entries.Given as goal

-- the entries so far, with those of the rows that are left, are all; and they are no fewer than those that came before
abbrev pub invariant-loop-row : goal.invariant-loop-row
invariant-loop-row l =
    Kept (rows_of l.tables) l.later l.place l.rows l.row-index l.entries.items (l.fn.entries.items ++ merging_entries (rows_of l.tables) l.place l.rows)
    × (length l.fn.entries.items ≤ length l.entries.items)
