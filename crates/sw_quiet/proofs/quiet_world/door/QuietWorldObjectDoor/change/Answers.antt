use Rattle.std.proofs.Common.{sym}
use Rattle.sw_core.specs.Worlds.{keeper_seen, sight_of}
use Rattle.sw_peer.specs.Sights.{IsMade}
use Rattle.sw_quiet.proofs.Trails.{calls-quiet, made-blind}
use Rattle.sw_quiet.proofs.quiet_world.door.QuietWorldObjectDoor.change.Goals as goal

pub returns-clause-made : goal.returns-clause-made
returns-clause-made g c =
    let v = g.V.Volume in let k = g.K.Keeper in
    rw (sym c.self.view_is, c.take_trail.ensures.after)
    (calls-quiet (IsMade c.args.link c.args.device c.args.name.now c.args.change) (made-blind c.args.link c.args.device c.args.name.now c.args.change)
    (sight_of v.tells v.holds v.faults (keeper_seen k.tells k.holds k.faults) c.self.inside.world) c.args.link c.change-answer.result
    (sight_of v.tells v.holds v.faults (keeper_seen k.tells k.holds k.faults) c.change-answer.new.self) c.change-answer.ensures.made)
