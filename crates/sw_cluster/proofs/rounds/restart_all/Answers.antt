use Rattle.sw_core.specs.Worlds.{keeper_seen}
use Rattle.std.proofs.Common.{◌≡◌, ◌+◌, ◌∙◌, ◌^◌, suc, ℕ, arith, refl, rules, subst}
use Rattle.std.proofs.lemmas.Result.{err_from_is_err_and}
use Rattle.sw_nodes.proofs.Restarting.{none-called}
use Rattle.sw_cluster.proofs.Rounding.{restarts-on, tried-on}
use Rattle.sw_cluster.specs.Rounds.{RestartsFirst}
use Rattle.sw_cluster.proofs.rounds.restart_all.Goals as goal

pub loop-device-init : goal.loop-device-init
loop-device-init g c = record {
  restarted = refl;
  ready = c.requires.ready;
  calls = none-called (2 ^ c.args.ring.now.lock_bits) (g.S.Stores.calls c.args.stores.now) (g.S.Stores.calls c.args.stores.now) refl;
  faults = refl;
}

pub loop-device-preserved : goal.loop-device-preserved
loop-device-preserved g c =
    let s = g.S.Stores in let v = g.S.V.Volume in let keeper = g.S.K.Keeper in
    let next : suc c.loop-device.device ≡ c.loop-device.device + 1 = omega arith in
    record {
      restarted = subst (λ (n : ℕ). RestartsFirst v.tells v.holds v.faults (keeper_seen keeper.tells keeper.holds keeper.faults) c.args.ring.now n
          c.args.world.now c.restart.new.world) next
          (c.loop-device.world, c.loop-device.invariant.restarted, c.in_ok-restart.ensures.restarted);
      ready = c.in_ok-restart.ensures.ready;
      calls = restarts-on c.loop-device.device (2 ^ c.args.ring.now.lock_bits) (s.calls c.args.stores.now) (s.calls c.loop-device.stores)
          (s.calls c.restart.new.stores) c.loop-device.invariant.calls c.in_ok-restart.ensures.calls;
      faults = c.in_ok-restart.ensures.cause ∙ c.loop-device.invariant.faults;
    }

pub returns-in_err-restart-clause-stops : goal.returns-in_err-restart-clause-stops
returns-in_err-restart-clause-stops g c =
    let s = g.S.Stores in
    let exit = err_from_is_err_and c.from_residual.result c.from_residual.ensures.1 in
    let fails = c.in_err-restart.ensures.fails in
    rw (exit.1) (
      c.loop-device.world,
      record {
        device = c.loop-device.device;
        is_device = search rules;
        restarted = c.loop-device.invariant.restarted;
        left = fails.left;
        tried = fails.tried;
        most = fails.most;
        calls_are = tried-on c.loop-device.device (2 ^ c.args.ring.now.lock_bits) fails.tried (s.calls c.args.stores.now) (s.calls c.loop-device.stores)
            (s.calls c.restart.new.stores) c.loop-device.invariant.calls fails.calls_are;
      },
    )
