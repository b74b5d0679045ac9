use Rattle.sw_core.specs.Worlds.{keeper_seen}
use Rattle.std.proofs.Common.{inr, subst}
use Rattle.sw_cluster.proofs.Rounding.{told-same}
use Rattle.sw_cluster.specs.Rounds.{ServesListened, listened}
use Rattle.sw_cluster.specs.Told.{DoorsTold, counts, doors_told, output}
use Rattle.sw_cluster.proofs.rounds.serve_connections.Goals as goal

pub returns-in-Ok-clause-serving : goal.returns-in-Ok-clause-serving
returns-in-Ok-clause-serving g c =
    let v = g.S.V.Volume in let keeper = g.S.K.Keeper in let s = g.S.Stores in let n = g.N.Doors in let run = c.serve_listened in
    inr (subst (λ (told : DoorsTold). ServesListened v.tells v.holds v.faults (keeper_seen keeper.tells keeper.holds keeper.faults) s.first c.args.ring.now
    c.args.port c.args.connections
    (s.rests c.args.stores.now) (s.rests run.new.stores) told (doors_told n.accepts n.finished n.calls n.faults run.new.doors)
    (output g.W.Sink.taken g.W.Sink.faults g.W.Sink.calls c.args.out.now run.new.out)
    (g.C.Clock.readings c.args.clock.now) (g.C.Clock.readings run.new.clock)
    (counts s.calls s.faults c.args.stores.now) (counts s.calls s.faults run.new.stores) run.result)
    (told-same (doors_told n.accepts n.finished n.calls n.faults c.listen.new.self)
    (listened (doors_told n.accepts n.finished n.calls n.faults c.args.doors.now))
    c.listen.ensures.accepts c.listen.ensures.finished c.listen.ensures.calls c.in-Ok.ensures.cause.kept) run.ensures.serving)
