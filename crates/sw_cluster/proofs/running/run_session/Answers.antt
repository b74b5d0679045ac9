use Rattle.std.proofs.Common.{◌*◌, ◌^◌, length, inl, inr, refl, subst, sym}
use Rattle.sw_core.specs.Worlds.{keeper_seen, AllNodes}
use Rattle.sw_volume.specs.Volume.{raised_by}
use Rattle.sw_cluster.proofs.Rounding.{counts-same}
use Rattle.sw_cluster.specs.Ending.{AreUnstarted, IsRunOver}
use Rattle.sw_cluster.specs.Told.{Counts, counts, input, output}
use Rattle.sw_cluster.proofs.running.run_session.Goals as goal

pub returns-in-Ok-clause-run : goal.returns-in-Ok-clause-run
returns-in-Ok-clause-run g c =
    let s = g.S.Stores in let v = g.S.V.Volume in let keeper = g.S.K.Keeper in let begun = c.in-Ok.ensures.begun in
    let now : Counts = record {
      calls = raised_by (length c.args.ring.now.devices * 2 ^ c.args.ring.now.lock_bits) (s.calls c.args.stores.now);
      faults = s.faults c.args.stores.now;
    } in
    inl (record {
      parts = begun.0;
      started = begun.1;
      count = begun.2;
      over = subst (λ (w : AllNodes _ _). IsRunOver v.tells v.holds v.faults (keeper_seen keeper.tells keeper.holds keeper.faults) c.args.ring.now w
          (s.rests c.session.new.stores) now
          (counts s.calls s.faults c.session.new.stores) (input g.R.Source.left g.R.Source.faults g.R.Source.calls c.args.source.now c.session.new.source)
          (output g.W.Sink.taken g.W.Sink.faults g.W.Sink.calls c.args.out.now c.session.new.out)
          (g.C.Clock.readings c.args.clock.now) (g.C.Clock.readings c.session.new.clock) c.session.new.trail c.session.result) begun.3
          (subst (λ (k : Counts). IsRunOver v.tells v.holds v.faults (keeper_seen keeper.tells keeper.holds keeper.faults) c.args.ring.now c.in-Ok.world
          (s.rests c.session.new.stores) k
          (counts s.calls s.faults c.session.new.stores) (input g.R.Source.left g.R.Source.faults g.R.Source.calls c.args.source.now c.session.new.source)
          (output g.W.Sink.taken g.W.Sink.faults g.W.Sink.calls c.args.out.now c.session.new.out)
          (g.C.Clock.readings c.args.clock.now) (g.C.Clock.readings c.session.new.clock) c.session.new.trail c.session.result)
          (counts-same (counts s.calls s.faults c.open_nodes.new.stores) now c.in-Ok.ensures.calls c.in-Ok.ensures.kept)
          c.session.ensures.run);
    })

pub returns-in-Err-clause-run : goal.returns-in-Err-clause-run
returns-in-Err-clause-run g c =
    let s = g.S.Stores in
    inr (record {
      unstarted = subst (AreUnstarted s.first c.args.ring.now (s.rests c.args.stores.now) (s.rests c.open_nodes.new.stores)
          (counts s.calls s.faults c.args.stores.now) (counts s.calls s.faults c.open_nodes.new.stores))
          (sym c.status_of_start.ensures) c.in-Err.ensures.unstarted;
      nothing_read = (refl, refl, refl);
      nothing_written = (refl, refl, refl);
      no_tick = refl;
      no_steps = c.requires.no_steps;
      no_moments = c.requires.no_moments;
    })
