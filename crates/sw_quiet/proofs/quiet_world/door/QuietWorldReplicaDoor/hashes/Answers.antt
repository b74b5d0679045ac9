use Rattle.std.proofs.Common.{sym}
use Rattle.sw_core.specs.Worlds.{keeper_seen, sight_of}
use Rattle.sw_peer.specs.Sights.{IsHashesRead}
use Rattle.sw_quiet.proofs.Trails.{calls-quiet, hashes-blind}
use Rattle.sw_quiet.proofs.quiet_world.door.QuietWorldReplicaDoor.hashes.Goals as goal

pub returns-clause-read : goal.returns-clause-read
returns-clause-read g c =
    let v = g.V.Volume in let k = g.K.Keeper in
    rw (sym c.self.view_is, c.take_trail.ensures.after)
    (calls-quiet (IsHashesRead c.args.link c.args.device c.args.part) (hashes-blind c.args.link c.args.device c.args.part)
    (sight_of v.tells v.holds v.faults (keeper_seen k.tells k.holds k.faults) c.self.inside.world) c.args.link c.hashes-hashes.result
    (sight_of v.tells v.holds v.faults (keeper_seen k.tells k.holds k.faults) c.hashes-hashes.new.self) c.hashes-hashes.ensures.read)
