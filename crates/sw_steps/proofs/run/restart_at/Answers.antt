use Rattle.std.proofs.Common.{refl}
use Rattle.sw_core.proofs.Anew.{restarts}
use Rattle.sw_core.specs.Worlds.{keeper_seen, sight_of}
use Rattle.sw_steps.proofs.Stepping.{restarted-runs, same-runs}
use Rattle.sw_steps.proofs.run.restart_at.Goals as goal

pub returns-clause-made : goal.returns-clause-made
returns-clause-made g c =
    let v = g.V.Volume in let k = g.K.Keeper in (
      refl,
      restarts v.tells v.holds v.faults (keeper_seen k.tells k.holds k.faults) c.args.world.now c.lift.new.self c.set_down.new.self c.args.device
          c.in_ok-parts.parts c.requires.whole c.requires.device c.in_ok-parts.ensures.ok c.set_down.ensures,
    )

pub returns-clause-runs : goal.returns-clause-runs
returns-clause-runs g c =
    let v = g.V.Volume in let k = g.K.Keeper in
    let w = c.args.world.now in
    let n = c.set_down.new.self in
    restarted-runs c.args.device (sight_of v.tells v.holds v.faults (keeper_seen k.tells k.holds k.faults) w)
    (sight_of v.tells v.holds v.faults (keeper_seen k.tells k.holds k.faults) n) refl
    (restarts v.tells v.holds v.faults (keeper_seen k.tells k.holds k.faults) w c.lift.new.self n c.args.device c.in_ok-parts.parts c.requires.whole
    c.requires.device
    c.in_ok-parts.ensures.ok c.set_down.ensures)

pub returns-in_err-parts-clause-runs : goal.returns-in_err-parts-clause-runs
returns-in_err-parts-clause-runs g c =
    let v = g.V.Volume in let k = g.K.Keeper in
    same-runs (sight_of v.tells v.holds v.faults (keeper_seen k.tells k.holds k.faults)) c.args.world.now c.lift.new.self c.in_err-parts.ensures.err
