use Rattle.std.proofs.Common.{refl, ap, Ok, subst, inl, inr}
use Rattle.sw_core.proofs.Wholes.{still-whole}
use Rattle.sw_core.specs.Worlds.{keeper_seen, sight_of}
use Rattle.sw_peer.proofs.Calls.{calls-moves, made-step}
use Rattle.sw_peer.specs.Sights.{Calls, IsAt, IsMade, Moves, Nodes}
use Rattle.sw_object_steps.specs.declared.change.Change.{Change}
use Rattle.sw_peer.specs.declared.link.Link.TheVariants.{Local}
use Rattle.sw_steps.proofs.Stepping.{any-err, changed-runs, on-err, on-ok, same-runs}
use Rattle.sw_steps.proofs.run.change_at.Goals as goal

pub returns-in_err-change-clause-tried : goal.returns-in_err-change-clause-tried
returns-in_err-change-clause-tried g c = any-err c.from_residual.result (inl refl)

pub returns-clause-made : goal.returns-clause-made
returns-clause-made g c =
    let v = g.V.Volume in let k = g.K.Keeper in let s = sight_of v.tells v.holds v.faults (keeper_seen k.tells k.holds k.faults) c.args.world.now in
    let t = sight_of v.tells v.holds v.faults (keeper_seen k.tells k.holds k.faults) c.change.new.self in
    let call : Calls (IsMade Local c.args.device c.args.name.now c.args.change.now) s Local (Ok c.in-Ok.answer) t =
    subst (λ (x : Change). Calls (IsMade Local c.args.device c.args.name.now x) s Local (Ok c.in-Ok.answer) t) c.in_ok-change.ensures c.in-Ok.ensures.made in
    on-ok c.unless_wanting.result (λ fine. (refl, c.in-Ok.answer, fine, call)) c.unless_wanting.ensures.ok

pub returns-clause-tried : goal.returns-clause-tried
returns-clause-tried g c =
    let v = g.V.Volume in let k = g.K.Keeper in let s = sight_of v.tells v.holds v.faults (keeper_seen k.tells k.holds k.faults) c.args.world.now in
    let t = sight_of v.tells v.holds v.faults (keeper_seen k.tells k.holds k.faults) c.change.new.self in
    let call : Calls (IsMade Local c.args.device c.args.name.now c.args.change.now) s Local (Ok c.in-Ok.answer) t =
    subst (λ (x : Change). Calls (IsMade Local c.args.device c.args.name.now x) s Local (Ok c.in-Ok.answer) t) c.in_ok-change.ensures c.in-Ok.ensures.made in
    on-err c.unless_wanting.result (λ wanting. inr (c.in-Ok.answer, wanting, call)) c.unless_wanting.ensures.err

pub returns-clause-runs : goal.returns-clause-runs
returns-clause-runs g c =
    let v = g.V.Volume in let k = g.K.Keeper in let s = sight_of v.tells v.holds v.faults (keeper_seen k.tells k.holds k.faults) c.args.world.now in
    let t = sight_of v.tells v.holds v.faults (keeper_seen k.tells k.holds k.faults) c.change.new.self in
    changed-runs c.args.device c.args.name.now _ s c.in-Ok.answer t refl c.in-Ok.ensures.made

pub returns-clause-whole : goal.returns-clause-whole
returns-clause-whole g c =
    let v = g.V.Volume in let k = g.K.Keeper in let s = sight_of v.tells v.holds v.faults (keeper_seen k.tells k.holds k.faults) c.args.world.now in
    let t = sight_of v.tells v.holds v.faults (keeper_seen k.tells k.holds k.faults) c.change.new.self in
    let call : Calls (IsMade Local c.args.device c.args.name.now c.args.change.now) s Local (Ok c.in-Ok.answer) t =
    subst (λ (x : Change). Calls (IsMade Local c.args.device c.args.name.now x) s Local (Ok c.in-Ok.answer) t) c.in_ok-change.ensures c.in-Ok.ensures.made in
    let moves = calls-moves (Moves (IsAt c.args.device c.args.name.now.hash)) (IsMade Local c.args.device c.args.name.now c.args.change.now)
    (made-step Local c.args.device c.args.name.now c.args.change.now) s Local (Ok c.in-Ok.answer) t call in
    still-whole c.args.world.now.lifted c.change.new.self.lifted c.args.device c.args.world.now.devices c.change.new.self.devices c.requires.whole
    c.requires.device
    (ap (λ (n : Nodes). n.devices) moves.nodes)

pub returns-in_err-change-clause-runs : goal.returns-in_err-change-clause-runs
returns-in_err-change-clause-runs g c =
    let v = g.V.Volume in let k = g.K.Keeper in
    same-runs (sight_of v.tells v.holds v.faults (keeper_seen k.tells k.holds k.faults)) c.args.world.now c.args.world.now refl
