use Rattle.sw_core.specs.Worlds.{keeper_seen}
use Rattle.std.proofs.Common.{◌⊎◌, refl, subst}
use Rattle.sw_outside.specs.Counts.{raised}
use Rattle.sw_cluster.proofs.OpeningLemmas.{not_opened, opened}
use Rattle.sw_cluster.proofs.Rounding.{counts-same}
use Rattle.sw_cluster.specs.Ending.{IsRun, IsUnbegun}
use Rattle.sw_cluster.specs.Told.{Counts, counts, input, output}
use Rattle.sw_cluster.proofs.command.run.Goals as goal

pub returns-in-Ok-clause-ends : goal.returns-in-Ok-clause-ends
returns-in-Ok-clause-ends g c =
    let v = g.S.V.Volume in let keeper = g.S.K.Keeper in let s = g.S.Stores in let run = c.run_session-status in
    let now : Counts = record { calls = raised (s.calls c.args.stores.now); faults = s.faults c.args.stores.now } in
    opened _ _ _ _ _ _ _ _ c.in-Ok.ring c.in-Ok.ensures.opening (record {
      began = s.rests c.open_ring.new.stores;
      same = c.in-Ok.ensures.rests;
      ends = subst (λ (k : Counts). IsRun v.tells v.holds v.faults (keeper_seen keeper.tells keeper.holds keeper.faults) s.first c.in-Ok.ring
          (s.rests c.open_ring.new.stores) (s.rests run.new.stores)
          k (counts s.calls s.faults run.new.stores) (input g.R.Source.left g.R.Source.faults g.R.Source.calls c.args.source.now run.new.source)
          (output g.W.Sink.taken g.W.Sink.faults g.W.Sink.calls c.args.out.now run.new.out)
          (g.C.Clock.readings c.args.clock.now) (g.C.Clock.readings run.new.clock) run.new.trail run.result
          ⊎ IsUnbegun s.first c.in-Ok.ring (s.rests c.open_ring.new.stores) (s.rests run.new.stores)
          k (counts s.calls s.faults run.new.stores) (input g.R.Source.left g.R.Source.faults g.R.Source.calls c.args.source.now run.new.source)
          (output g.W.Sink.taken g.W.Sink.faults g.W.Sink.calls c.args.out.now run.new.out)
          (g.C.Clock.readings c.args.clock.now) (g.C.Clock.readings run.new.clock) run.new.trail run.result)
          (counts-same (counts s.calls s.faults c.open_ring.new.stores) now c.in-Ok.ensures.once c.in-Ok.ensures.opening.1) run.ensures.run;
    })

pub returns-in-Err-clause-ends : goal.returns-in-Err-clause-ends
returns-in-Err-clause-ends g c =
    not_opened _ _ _ _ _ _ _ c.in-Err.fault c.in-Err.ensures.opening c.refuse_ring.ensures.refused (refl, refl, refl, refl, c.in-Err.ensures.once)
