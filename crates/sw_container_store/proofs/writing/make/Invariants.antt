-- The changes before the index were asked for, since the transaction was begun.
use Rattle.std.proofs.Common.{◌≡◌, take}
use Rattle.std.specs.List.{flat_map}
use Rattle.sw_container_store.specs.Runs.{RunsAll}
use Rattle.sw_container_store.specs.Values.{asked_of}
use Rattle.sw_container_store.proofs.writing.make.Given as goal

abbrev pub invariant-loop-change : goal.invariant-loop-change
invariant-loop-change g l = record {
  asked : RunsAll g.D.Database.runs (flat_map (asked_of l.place) (take l.change-index l.batch)) l.initial.database l.database;
  key : g.D.Database.key l.database ≡ g.D.Database.key l.initial.database;
}
