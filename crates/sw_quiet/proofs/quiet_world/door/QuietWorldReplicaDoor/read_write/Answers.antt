use Rattle.std.proofs.Common.{sym}
use Rattle.sw_core.specs.Worlds.{keeper_seen, sight_of}
use Rattle.sw_peer.specs.Sights.{IsWriteRead}
use Rattle.sw_quiet.proofs.Trails.{calls-quiet, write-blind}
use Rattle.sw_quiet.proofs.quiet_world.door.QuietWorldReplicaDoor.read_write.Goals as goal

pub returns-clause-read : goal.returns-clause-read
returns-clause-read g c =
    let v = g.V.Volume in let k = g.K.Keeper in
    rw (sym c.self.view_is, c.take_trail.ensures.after)
    (calls-quiet (IsWriteRead c.args.link c.args.device c.args.part c.args.hash.now c.args.file.now)
    (write-blind c.args.link c.args.device c.args.part c.args.hash.now c.args.file.now)
    (sight_of v.tells v.holds v.faults (keeper_seen k.tells k.holds k.faults) c.self.inside.world) c.args.link c.read_write-stored.result
    (sight_of v.tells v.holds v.faults (keeper_seen k.tells k.holds k.faults) c.read_write-stored.new.self) c.read_write-stored.ensures.read)
