use Rattle.sw_core.specs.Worlds.{keeper_seen}
use Rattle.std.proofs.Common.{refl, subst}
use Rattle.sw_outside.specs.Counts.{raised}
use Rattle.sw_cluster.proofs.OpeningLemmas.{not_opened, opened}
use Rattle.sw_cluster.proofs.Rounding.{counts-same}
use Rattle.sw_cluster.specs.Rounds.{ServesAt}
use Rattle.sw_cluster.specs.Told.{Counts, counts, doors_told, output}
use Rattle.sw_cluster.proofs.command.serve.Goals as goal

pub returns-in-Ok-clause-ends : goal.returns-in-Ok-clause-ends
returns-in-Ok-clause-ends g c =
    let v = g.S.V.Volume in let keeper = g.S.K.Keeper in let s = g.S.Stores in let n = g.N.Doors in let run = c.serve_connections-status in
    let now : Counts = record { calls = raised (s.calls c.args.stores.now); faults = s.faults c.args.stores.now } in
    opened _ _ _ _ _ _ _ _ c.in-Ok.ring c.in-Ok.ensures.opening (record {
      began = s.rests c.open_ring.new.stores;
      same = c.in-Ok.ensures.rests;
      ends = subst (λ (k : Counts). ServesAt v.tells v.holds v.faults (keeper_seen keeper.tells keeper.holds keeper.faults) s.first c.in-Ok.ring
          c.args.options.port c.args.options.connections
          (s.rests c.open_ring.new.stores) (s.rests run.new.stores)
          (doors_told n.accepts n.finished n.calls n.faults c.args.doors.now) (doors_told n.accepts n.finished n.calls n.faults run.new.doors)
          (output g.W.Sink.taken g.W.Sink.faults g.W.Sink.calls c.args.out.now run.new.out)
          (g.C.Clock.readings c.args.clock.now) (g.C.Clock.readings run.new.clock) k (counts s.calls s.faults run.new.stores) run.result)
          (counts-same (counts s.calls s.faults c.open_ring.new.stores) now c.in-Ok.ensures.once c.in-Ok.ensures.opening.1) run.ensures.serving;
    })

pub returns-in-Err-clause-ends : goal.returns-in-Err-clause-ends
returns-in-Err-clause-ends g c =
    not_opened _ _ _ _ _ _ _ c.in-Err.fault c.in-Err.ensures.opening c.refuse_ring.ensures.refused (refl, refl, refl, c.in-Err.ensures.once)
