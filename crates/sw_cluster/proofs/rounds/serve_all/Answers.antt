use Rattle.sw_core.specs.Worlds.{keeper_seen}
use Rattle.std.proofs.Common.{◌≡◌, ◌+◌, ℕ, arith, subst}
use Rattle.std.proofs.lemmas.Result.{err_from_is_err_and}
use Rattle.sw_cluster.specs.Rounds.{AllServed}
use Rattle.sw_cluster.specs.Told.{counts, doors_told}
use Rattle.sw_cluster.proofs.Rounding.{all-join, lengths-on, none-served, served-of, stopped-join}
use Rattle.sw_cluster.proofs.rounds.serve_all.Goals as goal

pub loop-init : goal.loop-init
loop-init g c =
    let s = g.S.Stores in let v = g.S.V.Volume in let keeper = g.S.K.Keeper in let n = g.N.Doors in
    record {
      served = none-served v.tells v.holds v.faults (keeper_seen keeper.tells keeper.holds keeper.faults) c.args.ring.now c.args.world.now
          (doors_told n.accepts n.finished n.calls n.faults c.args.doors.now)
          (g.C.Clock.readings c.args.clock.now) (counts s.calls s.faults c.args.stores.now);
      ready = c.requires.ready;
      least = c.requires.doors;
    }

pub loop-preserved : goal.loop-preserved
loop-preserved g c =
    let s = g.S.Stores in let v = g.S.V.Volume in let keeper = g.S.K.Keeper in let n = g.N.Doors in
    let more = c.in_ok-serve_next.ensures.all in
    record {
      served = all-join v.tells v.holds v.faults (keeper_seen keeper.tells keeper.holds keeper.faults) c.args.ring.now c.loop.counter c.args.world.now
          c.loop.world c.serve_next.new.world
          (doors_told n.accepts n.finished n.calls n.faults c.args.doors.now) (doors_told n.accepts n.finished n.calls n.faults c.loop.doors)
          (doors_told n.accepts n.finished n.calls n.faults c.serve_next.new.doors)
          (g.C.Clock.readings c.args.clock.now) (g.C.Clock.readings c.loop.clock) (g.C.Clock.readings c.serve_next.new.clock)
          (counts s.calls s.faults c.args.stores.now) (counts s.calls s.faults c.loop.stores) (counts s.calls s.faults c.serve_next.new.stores)
          c.loop.invariant.served 1 more;
      ready = c.in_ok-serve_next.ensures.ready;
      least = lengths-on more.rounds (doors_told n.accepts n.finished n.calls n.faults c.loop.doors)
          (doors_told n.accepts n.finished n.calls n.faults c.serve_next.new.doors)
          (g.C.Clock.readings c.loop.clock) (g.C.Clock.readings c.serve_next.new.clock) more.heard c.loop.invariant.least;
    }

pub returns-in_err-serve_next-clause-stops : goal.returns-in_err-serve_next-clause-stops
returns-in_err-serve_next-clause-stops g c =
    let s = g.S.Stores in let v = g.S.V.Volume in let keeper = g.S.K.Keeper in let n = g.N.Doors in
    let exit = err_from_is_err_and c.from_residual.result c.from_residual.ensures.1 in
    let stops = c.in_err-serve_next.ensures.stops in
    rw (exit.1, exit.2) (
      stops.0,
      served-of v.tells v.holds v.faults (keeper_seen keeper.tells keeper.holds keeper.faults) c.args.ring.now (c.loop.counter + 1) c.args.connections
          (omega (arith, c.loop-test.true)) c.args.world.now stops.0
          (doors_told n.accepts n.finished n.calls n.faults c.args.doors.now) (doors_told n.accepts n.finished n.calls n.faults c.serve_next.new.doors)
          (g.C.Clock.readings c.args.clock.now) (g.C.Clock.readings c.serve_next.new.clock)
          (counts s.calls s.faults c.args.stores.now) (counts s.calls s.faults c.serve_next.new.stores) _
          (stopped-join v.tells v.holds v.faults (keeper_seen keeper.tells keeper.holds keeper.faults) c.args.ring.now c.loop.counter c.args.world.now
          c.loop.world stops.0
          (doors_told n.accepts n.finished n.calls n.faults c.args.doors.now) (doors_told n.accepts n.finished n.calls n.faults c.loop.doors)
          (doors_told n.accepts n.finished n.calls n.faults c.serve_next.new.doors)
          (g.C.Clock.readings c.args.clock.now) (g.C.Clock.readings c.loop.clock) (g.C.Clock.readings c.serve_next.new.clock)
          (counts s.calls s.faults c.args.stores.now) (counts s.calls s.faults c.loop.stores) (counts s.calls s.faults c.serve_next.new.stores)
          c.loop.invariant.served 1 _ stops.1),
      stops.2,
    )

pub returns-clause-all : goal.returns-clause-all
returns-clause-all g c =
    let s = g.S.Stores in let v = g.S.V.Volume in let keeper = g.S.K.Keeper in let n = g.N.Doors in
    let all : c.loop.counter ≡ c.args.connections = omega (arith, c.loop-test.false, c.loop.auto.counter-end) in
    subst (λ (k : ℕ). AllServed v.tells v.holds v.faults (keeper_seen keeper.tells keeper.holds keeper.faults) c.args.ring.now k c.args.world.now c.loop.world
    (doors_told n.accepts n.finished n.calls n.faults c.args.doors.now) (doors_told n.accepts n.finished n.calls n.faults c.loop.doors)
    (g.C.Clock.readings c.args.clock.now) (g.C.Clock.readings c.loop.clock)
    (counts s.calls s.faults c.args.stores.now) (counts s.calls s.faults c.loop.stores)) all c.loop.invariant.served
