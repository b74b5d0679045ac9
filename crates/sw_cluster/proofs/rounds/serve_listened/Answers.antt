use Rattle.std.proofs.Common.{◌∙◌, ◌*◌, ◌^◌, length, inl, inr, refl, subst, sym, ap}
use Rattle.sw_core.specs.Worlds.{keeper_seen, AllNodes, without_lines}
use Rattle.sw_volume.specs.Volume.{raised_by}
use Rattle.sw_cluster.proofs.Rounding.{counts-same}
use Rattle.sw_cluster.specs.Ending.{AreUnstarted}
use Rattle.sw_cluster.specs.Rounds.{IsServedOver}
use Rattle.sw_cluster.specs.Told.{Counts, counts, doors_told, output}
use Rattle.sw_cluster.proofs.rounds.serve_listened.Goals as goal

pub serve_over-requires-clause-begun : goal.serve_over-requires-clause-begun
serve_over-requires-clause-begun g c =
    let begun = c.in-Ok.ensures.begun in
    (begun.0, begun.2, c.over.ensures ∙ ap without_lines begun.3)

pub returns-in-Ok-clause-serving : goal.returns-in-Ok-clause-serving
returns-in-Ok-clause-serving g c =
    let v = g.S.V.Volume in let keeper = g.S.K.Keeper in let s = g.S.Stores in let n = g.N.Doors in let begun = c.in-Ok.ensures.begun in
    let run = c.serve_over in
    let now : Counts = record {
      calls = raised_by (length c.args.ring.now.devices * 2 ^ c.args.ring.now.lock_bits) (s.calls c.args.stores.now);
      faults = s.faults c.args.stores.now;
    } in
    inl (record {
      parts = begun.0;
      started = begun.1;
      count = begun.2;
      over = subst (λ (w : AllNodes _ _). IsServedOver v.tells v.holds v.faults (keeper_seen keeper.tells keeper.holds keeper.faults) c.args.ring.now
          c.args.port c.args.connections w (s.rests run.new.stores)
          (doors_told n.accepts n.finished n.calls n.faults c.args.doors.now) (doors_told n.accepts n.finished n.calls n.faults run.new.doors)
          (output g.W.Sink.taken g.W.Sink.faults g.W.Sink.calls c.args.out.now run.new.out)
          (g.C.Clock.readings c.args.clock.now) (g.C.Clock.readings run.new.clock) now (counts s.calls s.faults run.new.stores) run.result)
          (c.over.ensures ∙ ap without_lines begun.3)
          (subst (λ (k : Counts). IsServedOver v.tells v.holds v.faults (keeper_seen keeper.tells keeper.holds keeper.faults) c.args.ring.now c.args.port
          c.args.connections c.over.result (s.rests run.new.stores)
          (doors_told n.accepts n.finished n.calls n.faults c.args.doors.now) (doors_told n.accepts n.finished n.calls n.faults run.new.doors)
          (output g.W.Sink.taken g.W.Sink.faults g.W.Sink.calls c.args.out.now run.new.out)
          (g.C.Clock.readings c.args.clock.now) (g.C.Clock.readings run.new.clock) k (counts s.calls s.faults run.new.stores) run.result)
          (counts-same (counts s.calls s.faults c.open_nodes.new.stores) now c.in-Ok.ensures.calls c.in-Ok.ensures.kept)
          run.ensures.over);
    })

pub returns-in-Err-clause-serving : goal.returns-in-Err-clause-serving
returns-in-Err-clause-serving g c =
    let s = g.S.Stores in
    inr (record {
      unstarted = subst (AreUnstarted s.first c.args.ring.now (s.rests c.args.stores.now) (s.rests c.open_nodes.new.stores)
          (counts s.calls s.faults c.args.stores.now) (counts s.calls s.faults c.open_nodes.new.stores))
          (sym c.status_of_start.ensures) c.in-Err.ensures.unstarted;
      doors_are = refl;
      nothing_written = (refl, refl, refl);
      no_tick = refl;
    })
