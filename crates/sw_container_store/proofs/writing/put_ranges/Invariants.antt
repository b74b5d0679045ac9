-- The ranges before the index were put, since those before them were taken away.
use Rattle.std.proofs.Common.{◌≡◌, map, take}
use Rattle.sw_container_store.specs.Runs.{RunsAll}
use Rattle.sw_container_store.specs.Values.{range_asked, range_rows}
use Rattle.sw_container_store.proofs.writing.put_ranges.Given as goal

abbrev pub invariant-loop-range : goal.invariant-loop-range
invariant-loop-range g l = record {
  asked : RunsAll g.D.Database.runs (map range_asked (range_rows 0 (take l.range-index l.ranges))) l.initial.database l.database;
  index : l.index ≡ l.range-index;
  key : g.D.Database.key l.database ≡ g.D.Database.key l.initial.database;
}
