-- The points are those of the rows before the index, and all stand before the least that may follow.
use Rattle.std.proofs.Common.{◌≡◌, map, take}
use Rattle.sw_container_store.specs.Values.{point_values}
use Rattle.sw_container_store.proofs.Pointing.{AreBefore}
use Rattle.sw_container_store.proofs.reading_ranges.shard_points_of.Given as goal

abbrev pub invariant-loop-row : goal.invariant-loop-row
invariant-loop-row l = record {
  values : map point_values l.points ≡ take l.row-index l.rows;
  before : AreBefore l.least.0 l.least.1 l.points;
}
