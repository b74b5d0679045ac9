use Rattle.std.proofs.Common.{sym}
use Rattle.sw_core.specs.Worlds.{keeper_seen, sight_of}
use Rattle.sw_peer.specs.Sights.{IsRead}
use Rattle.sw_quiet.proofs.Trails.{calls-quiet, read-blind}
use Rattle.sw_quiet.proofs.quiet_world.door.QuietWorldObjectDoor.get.Goals as goal

pub returns-clause-read : goal.returns-clause-read
returns-clause-read g c =
    let v = g.V.Volume in let k = g.K.Keeper in
    rw (sym c.self.view_is, c.take_trail.ensures.after)
    (calls-quiet (IsRead c.args.link c.args.device c.args.name.now) (read-blind c.args.link c.args.device c.args.name.now)
    (sight_of v.tells v.holds v.faults (keeper_seen k.tells k.holds k.faults) c.self.inside.world) c.args.link c.get-got.result
    (sight_of v.tells v.holds v.faults (keeper_seen k.tells k.holds k.faults) c.get-got.new.self) c.get-got.ensures.read)
