use Rattle.std.proofs.Common.{refl, ap, Ok, inr}
use Rattle.sw_core.proofs.Wholes.{still-whole}
use Rattle.sw_core.specs.Worlds.{keeper_seen, sight_of}
use Rattle.sw_peer.proofs.Calls.{calls-moves, read-step}
use Rattle.sw_peer.specs.Sights.{IsAt, IsRead, Moves, Nodes}
use Rattle.sw_peer.specs.declared.link.Link.TheVariants.{Local}
use Rattle.sw_steps.proofs.Stepping.{on-err, on-ok, read-runs}
use Rattle.sw_steps.proofs.run.read_at.Goals as goal

pub returns-clause-made : goal.returns-clause-made
returns-clause-made g c = on-ok c.unless_wanting_read.result (λ fine. (refl, c.in-Ok.got, fine, c.in-Ok.ensures.read)) c.unless_wanting_read.ensures.ok

pub returns-clause-tried : goal.returns-clause-tried
returns-clause-tried g c =
    on-err c.unless_wanting_read.result (λ wanting. inr (c.in-Ok.got, wanting, c.in-Ok.ensures.read)) c.unless_wanting_read.ensures.err

pub returns-clause-runs : goal.returns-clause-runs
returns-clause-runs g c =
    let v = g.V.Volume in let k = g.K.Keeper in let s = sight_of v.tells v.holds v.faults (keeper_seen k.tells k.holds k.faults) c.args.world.now in
    let t = sight_of v.tells v.holds v.faults (keeper_seen k.tells k.holds k.faults) c.get.new.self in
    read-runs c.args.device c.args.name.now s c.in-Ok.got t refl c.in-Ok.ensures.read

pub returns-clause-whole : goal.returns-clause-whole
returns-clause-whole g c =
    let v = g.V.Volume in let k = g.K.Keeper in let s = sight_of v.tells v.holds v.faults (keeper_seen k.tells k.holds k.faults) c.args.world.now in
    let t = sight_of v.tells v.holds v.faults (keeper_seen k.tells k.holds k.faults) c.get.new.self in
    let moves = calls-moves (Moves (IsAt c.args.device c.args.name.now.hash)) (IsRead Local c.args.device c.args.name.now)
    (read-step Local c.args.device c.args.name.now) s Local (Ok c.in-Ok.got) t c.in-Ok.ensures.read in
    still-whole c.args.world.now.lifted c.get.new.self.lifted c.args.device c.args.world.now.devices c.get.new.self.devices c.requires.whole c.requires.device
    (ap (λ (n : Nodes). n.devices) moves.nodes)
