-- What was told of the hashes before the index are these places. No call and no fault was counted.
use Rattle.std.proofs.Common.{◌≡◌, take}
use Rattle.sw_container_store.specs.Naming.{NamesEach}
use Rattle.sw_container_store.proofs.container_store.ContainerStore.places.Given as goal

abbrev pub invariant-loop-hash : goal.invariant-loop-hash
invariant-loop-hash g l = record {
  named : NamesEach g.H.Databases.finds g.H.Databases.opens g.H.Open.Database.shows (take l.hash-index l.hash-items) l.initial.self.databases
      l.self.databases l.initial.self.opened l.self.opened l.places.items;
  calls : l.self.calls ≡ l.initial.self.calls;
  faults : l.self.faults ≡ l.initial.self.faults;
}
