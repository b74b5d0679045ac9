use Rattle.sw_core.specs.Worlds.{keeper_seen}
use Rattle.std.proofs.Common.{refl, inr}
use Rattle.sw_nodes.proofs.Readying.{ready-nodes}
use Rattle.sw_cluster.proofs.Rounding.{one-stopped}
use Rattle.sw_cluster.proofs.Served.{ready-after}
use Rattle.sw_cluster.specs.Told.{counts, doors_told}
use Rattle.sw_cluster.proofs.rounds.serve_next.Goals as goal

pub serve_one-requires-clause-nodes : goal.serve_one-requires-clause-nodes
serve_one-requires-clause-nodes g c = ready-nodes g.S.Stores.out c.args.ring.now c.args.world.now c.args.stores.now c.requires.ready

pub restart_all-requires : goal.restart_all-requires
restart_all-requires g c =
    let v = g.S.V.Volume in let keeper = g.S.K.Keeper in let one = c.in-Ok.ensures.one in
    record {
      ready = ready-after v.tells v.holds v.faults (keeper_seen keeper.tells keeper.holds keeper.faults) c.args.ring.now g.S.Stores.out c.args.world.now
          c.serve_one.new.door c.args.stores.now one.0 c.requires.ready
          one.1;
    }

pub returns-in-Err-Failed-restart_all-clause-stops : goal.returns-in-Err-Failed-restart_all-clause-stops
returns-in-Err-Failed-restart_all-clause-stops g c =
    let s = g.S.Stores in let v = g.S.V.Volume in let keeper = g.S.K.Keeper in let n = g.N.Doors in
    let one = c.in-Ok.ensures.one in let stops = c.in-Err-Failed-restart_all.ensures.stops in (
      stops.0,
      (
        one-stopped v.tells v.holds v.faults (keeper_seen keeper.tells keeper.holds keeper.faults) c.args.ring.now c.args.world.now c.serve_one.new.door
            (doors_told n.accepts n.finished n.calls n.faults c.args.doors.now) (doors_told n.accepts n.finished n.calls n.faults c.serve_one.new.doors)
            (g.C.Clock.readings c.args.clock.now) (g.C.Clock.readings c.serve_one.new.clock) one.0 one.1 one.2 c.serve_one.ensures.calls
            s.calls s.rests s.out stops.0 c.restart_all.new.world c.args.stores.now c.restart_all.new.stores
            (counts s.calls s.faults c.args.stores.now) (counts s.calls s.faults c.restart_all.new.stores) refl refl stops.1,
        c.in-Ok.ensures.cause,
        rw c.in-Err-Failed-restart_all.field-0-is at c.in-Err-Failed-restart_all.ensures.cause,
      ),
      stops.1.left,
    )

pub returns-in-Err-NoMemory-restart_all-clause-stops : goal.returns-in-Err-NoMemory-restart_all-clause-stops
returns-in-Err-NoMemory-restart_all-clause-stops g c =
    let s = g.S.Stores in let v = g.S.V.Volume in let keeper = g.S.K.Keeper in let n = g.N.Doors in
    let one = c.in-Ok.ensures.one in let stops = c.in-Err-NoMemory-restart_all.ensures.stops in (
      stops.0,
      (
        inr (one-stopped v.tells v.holds v.faults (keeper_seen keeper.tells keeper.holds keeper.faults) c.args.ring.now c.args.world.now c.serve_one.new.door
            (doors_told n.accepts n.finished n.calls n.faults c.args.doors.now) (doors_told n.accepts n.finished n.calls n.faults c.serve_one.new.doors)
            (g.C.Clock.readings c.args.clock.now) (g.C.Clock.readings c.serve_one.new.clock) one.0 one.1 one.2 c.serve_one.ensures.calls
            s.calls s.rests s.out stops.0 c.restart_all.new.world c.args.stores.now c.restart_all.new.stores
            (counts s.calls s.faults c.args.stores.now) (counts s.calls s.faults c.restart_all.new.stores) refl refl stops.1),
        c.in-Ok.ensures.cause,
        rw c.in-Err-NoMemory-restart_all.field-0-is at c.in-Err-NoMemory-restart_all.ensures.cause,
      ),
      stops.1.left,
    )
