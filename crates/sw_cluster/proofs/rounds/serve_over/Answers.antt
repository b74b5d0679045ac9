use Rattle.std.proofs.Common.{◌∙◌, ℕ, Option, refl, sym, ap, subst}
use Rattle.sw_core.specs.Worlds.{keeper_seen, AllNodes, opened}
use Rattle.sw_nodes.proofs.Readying.{ready-of}
use Rattle.sw_cluster.proofs.Rounding.{counts-same}
use Rattle.sw_cluster.proofs.Served.{Goes, ends-go, has-served, left-given}
use Rattle.sw_cluster.specs.Leaving.{AreLeft}
use Rattle.sw_nodes.specs.Nodes.{IsReady, out_but}
use Rattle.sw_cluster.specs.Rounds.{EndsServing, HasServed}
use Rattle.sw_cluster.specs.Told.{Counts, counts, doors_told, output}
use Rattle.sw_cluster.specs.Limits.{serve_bytes}
use Rattle.sw_cluster.proofs.rounds.serve_over.Goals as goal

pub attend-ended-requires-clause-ready : goal.attend-ended-requires-clause-ready
attend-ended-requires-clause-ready g c =
    let b = c.requires.begun in
    subst (λ (w : AllNodes _ _). IsReady g.S.Stores.out c.args.ring.now w c.args.stores.now) (sym b.2)
    (ready-of g.S.Stores.out c.args.ring.now (opened serve_bytes c.args.ring.now b.0) c.args.stores.now refl refl c.requires.out)

pub give_back-requires-clause-devices : goal.give_back-requires-clause-devices
give_back-requires-clause-devices g c =
    let s = g.S.Stores in let v = g.S.V.Volume in let keeper = g.S.K.Keeper in let ended = c.attend-ended.ensures in
    ap (λ (w : AllNodes _ _). w.devices) c.into_world.ensures
    ∙ (left-given v.tells v.holds v.faults (keeper_seen keeper.tells keeper.holds keeper.faults) c.args.ring.now s.calls s.rests s.out ended.0
    c.attend-ended.new.world c.attend-ended.new.stores ended.2).devices

pub give_back-requires-clause-lock_bits : goal.give_back-requires-clause-lock_bits
give_back-requires-clause-lock_bits g c =
    let s = g.S.Stores in let v = g.S.V.Volume in let keeper = g.S.K.Keeper in let ended = c.attend-ended.ensures in
    ap (λ (w : AllNodes _ _). w.lock_bits) c.into_world.ensures
    ∙ (left-given v.tells v.holds v.faults (keeper_seen keeper.tells keeper.holds keeper.faults) c.args.ring.now s.calls s.rests s.out ended.0
    c.attend-ended.new.world c.attend-ended.new.stores ended.2).lock_bits

pub give_back-requires-clause-lifted : goal.give_back-requires-clause-lifted
give_back-requires-clause-lifted g c device is =
    let s = g.S.Stores in let v = g.S.V.Volume in let keeper = g.S.K.Keeper in let ended = c.attend-ended.ensures in
    (left-given v.tells v.holds v.faults (keeper_seen keeper.tells keeper.holds keeper.faults) c.args.ring.now s.calls s.rests s.out ended.0
    c.attend-ended.new.world c.attend-ended.new.stores ended.2).lifted device
    (sym (ap (λ (w : AllNodes _ _). w.lifted) c.into_world.ensures) ∙ is)

pub give_back-requires-clause-out : goal.give_back-requires-clause-out
give_back-requires-clause-out g c d t =
    let s = g.S.Stores in let v = g.S.V.Volume in let keeper = g.S.K.Keeper in let ended = c.attend-ended.ensures in
    (left-given v.tells v.holds v.faults (keeper_seen keeper.tells keeper.holds keeper.faults) c.args.ring.now s.calls s.rests s.out ended.0
    c.attend-ended.new.world c.attend-ended.new.stores ended.2).are_out d t
    ∙ ap (λ (o : Option ℕ). out_but c.args.ring.now o d t) (sym (ap (λ (w : AllNodes _ _). w.lifted) c.into_world.ensures))

pub returns-clause-over : goal.returns-clause-over
returns-clause-over g c =
    let s = g.S.Stores in let v = g.S.V.Volume in let keeper = g.S.K.Keeper in let n = g.N.Doors in let ended = c.attend-ended.ensures in
    let begun = c.requires.begun in
    record {
      after = ended.0;
      ended = c.attend-ended.result;
      status_is = c.status_of_serve.ensures;
      ends = subst (λ (k : Counts). EndsServing v.tells v.holds v.faults (keeper_seen keeper.tells keeper.holds keeper.faults) c.args.ring.now c.args.port
          c.args.connections c.args.world ended.0
          (doors_told n.accepts n.finished n.calls n.faults c.args.doors.now) (doors_told n.accepts n.finished n.calls n.faults c.attend-ended.new.doors)
          (output g.W.Sink.taken g.W.Sink.faults g.W.Sink.calls c.args.out.now c.attend-ended.new.out)
          (g.C.Clock.readings c.args.clock.now) (g.C.Clock.readings c.attend-ended.new.clock)
          (counts s.calls s.faults c.args.stores.now) k c.attend-ended.result)
          (counts-same (counts s.calls s.faults c.attend-ended.new.stores) (counts s.calls s.faults c.give_back.new.stores)
          (sym c.give_back.ensures.calls) (sym c.give_back.ensures.faults)) ended.1;
      served = subst (λ (w : AllNodes _ _). HasServed v.tells v.holds v.faults (keeper_seen keeper.tells keeper.holds keeper.faults) c.args.ring.now w ended.0
          (s.rests c.give_back.new.stores)) (sym begun.2)
          (has-served v.tells v.holds v.faults (keeper_seen keeper.tells keeper.holds keeper.faults) c.args.ring.now s.calls s.rests s.out begun.0 ended.0
          c.into_world.result c.attend-ended.new.stores
          (subst (λ (w : AllNodes _ _). AreLeft v.tells v.holds v.faults (keeper_seen keeper.tells keeper.holds keeper.faults) s.calls s.rests s.out
          c.args.ring.now ended.0 w c.attend-ended.new.stores)
          (sym c.into_world.ensures) ended.2)
          (subst (λ (w : AllNodes _ _). Goes v.tells v.holds v.faults (keeper_seen keeper.tells keeper.holds keeper.faults) c.args.ring.now w ended.0) begun.2
          (ends-go v.tells v.holds v.faults (keeper_seen keeper.tells keeper.holds keeper.faults) c.args.ring.now c.args.port c.args.connections c.args.world
          ended.0 _ _ _ _ _ _ _ _ ended.1))
          (s.rests c.give_back.new.stores) c.give_back.ensures.world c.give_back.ensures.rests c.give_back.ensures.others c.give_back.ensures.told
          c.give_back.ensures.containers c.give_back.ensures.locks);
    }
