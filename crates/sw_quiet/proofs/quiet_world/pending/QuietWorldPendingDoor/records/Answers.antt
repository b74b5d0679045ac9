use Rattle.std.proofs.Common.{sym}
use Rattle.sw_core.specs.Worlds.{keeper_seen, sight_of}
use Rattle.sw_peer.specs.Sights.{IsRecordsRead}
use Rattle.sw_quiet.proofs.Trails.{calls-quiet, records-blind}
use Rattle.sw_quiet.proofs.quiet_world.pending.QuietWorldPendingDoor.records.Goals as goal

pub returns-clause-read : goal.returns-clause-read
returns-clause-read g c =
    let v = g.V.Volume in let k = g.K.Keeper in
    rw (sym c.self.view_is, c.take_trail.ensures.after)
    (calls-quiet (IsRecordsRead c.args.link c.args.device c.args.stripe) (records-blind c.args.link c.args.device c.args.stripe)
    (sight_of v.tells v.holds v.faults (keeper_seen k.tells k.holds k.faults) c.self.inside.world) c.args.link c.records-records.result
    (sight_of v.tells v.holds v.faults (keeper_seen k.tells k.holds k.faults) c.records-records.new.self) c.records-records.ensures.read)
