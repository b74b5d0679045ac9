use Rattle.std.proofs.Common.{sym}
use Rattle.sw_core.specs.Worlds.{keeper_seen, sight_of}
use Rattle.sw_peer.specs.Sights.{IsFilesRead}
use Rattle.sw_quiet.proofs.Trails.{calls-quiet, files-blind}
use Rattle.sw_quiet.proofs.quiet_world.door.QuietWorldReplicaDoor.files_of.Goals as goal

pub returns-clause-read : goal.returns-clause-read
returns-clause-read g c =
    let v = g.V.Volume in let k = g.K.Keeper in
    rw (sym c.self.view_is, c.take_trail.ensures.after)
    (calls-quiet (IsFilesRead c.args.link c.args.device c.args.part c.args.suffix) (files-blind c.args.link c.args.device c.args.part c.args.suffix)
    (sight_of v.tells v.holds v.faults (keeper_seen k.tells k.holds k.faults) c.self.inside.world) c.args.link c.files_of-files.result
    (sight_of v.tells v.holds v.faults (keeper_seen k.tells k.holds k.faults) c.files_of-files.new.self) c.files_of-files.ensures.read)
