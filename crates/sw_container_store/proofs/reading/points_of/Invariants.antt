-- The points are those of the rows before the index, and no device of theirs is at or above the least that may follow.
use Rattle.std.proofs.Common.{◌≡◌, ◌≤◌, map, take}
use Rattle.sw_container_store.specs.Telling.{AreSyncs}
use Rattle.sw_container_store.specs.Values.{point_values}
use Rattle.sw_container_store.proofs.reading.points_of.Given as goal

abbrev pub invariant-loop-row : goal.invariant-loop-row
invariant-loop-row l = record {
  values : map point_values l.points ≡ take l.row-index l.rows;
  each : AreSyncs 0 l.least l.points;
  most : l.least ≤ 256;
}
