use Rattle.std.proofs.Common.{sym}
use Rattle.sw_core.specs.Worlds.{keeper_seen, sight_of}
use Rattle.sw_peer.specs.ContSights.{IsContMade}
use Rattle.sw_quiet.proofs.Trails.{calls-quiet, cont-made-blind}
use Rattle.sw_quiet.proofs.quiet_world.containers.QuietWorldContainerDoor.change_container.Goals as goal

pub returns-clause-made : goal.returns-clause-made
returns-clause-made g c =
    let v = g.V.Volume in let k = g.K.Keeper in
    rw (sym c.self.view_is, c.take_trail.ensures.after)
    (calls-quiet (IsContMade c.args.link c.args.device c.args.place.now c.args.change.now)
    (cont-made-blind c.args.link c.args.device c.args.place.now c.args.change.now)
    (sight_of v.tells v.holds v.faults (keeper_seen k.tells k.holds k.faults) c.self.inside.world) c.args.link c.change_container-answer.result
    (sight_of v.tells v.holds v.faults (keeper_seen k.tells k.holds k.faults) c.change_container-answer.new.self) c.change_container-answer.ensures.made)
