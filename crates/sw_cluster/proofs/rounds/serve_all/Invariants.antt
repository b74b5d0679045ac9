use Rattle.sw_core.specs.Worlds.{keeper_seen}
use Rattle.std.proofs.Common.{◌≤◌, length}
use Rattle.sw_nodes.specs.Nodes.{IsReady}
use Rattle.sw_cluster.specs.Rounds.{AllServed}
use Rattle.sw_cluster.specs.Told.{counts, doors_told}
use Rattle.sw_cluster.proofs.rounds.serve_all.Given as goal

-- the connections so far were served
abbrev pub invariant-loop : goal.invariant-loop
invariant-loop g l =
    let s = g.S.Stores in
    let v = g.S.V.Volume in let keeper = g.S.K.Keeper in
    let n = g.N.Doors in
    record {
      served : AllServed v.tells v.holds v.faults (keeper_seen keeper.tells keeper.holds keeper.faults) l.ring l.counter l.initial.world l.world
          (doors_told n.accepts n.finished n.calls n.faults l.initial.doors) (doors_told n.accepts n.finished n.calls n.faults l.doors)
          (g.C.Clock.readings l.initial.clock) (g.C.Clock.readings l.clock) (counts s.calls s.faults l.initial.stores) (counts s.calls s.faults l.stores);
      ready : IsReady s.out l.ring l.world l.stores;
      least : length (n.finished l.doors) ≤ length (n.accepts l.doors);
    }
