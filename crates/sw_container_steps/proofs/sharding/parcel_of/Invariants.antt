use Rattle.std.proofs.Common.{◌≡◌, ◌++◌}
use Rattle.sw_container_steps.specs.Reads.{range_rows}
use Rattle.sw_container_steps.specs.Serving.{is_of_range}
use Rattle.sw_container_steps.proofs.Parcels.{passing}
use Rattle.sw_rows.specs.Left.{rows_left}
use Rattle.sw_container_steps.proofs.sharding.parcel_of.Given as goal

-- the copies so far are those of the rows before the ones that are still looked at
abbrev pub invariant-loop-rowid : goal.invariant-loop-rowid
invariant-loop-rowid l =
    l.rows.items ++ passing (is_of_range l.ranges l.range l.point) (rows_left l.rowid-iterator) ≡ range_rows l.ranges l.range l.point l.tables
