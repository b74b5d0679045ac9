use Rattle.std.proofs.Common.{sym}
use Rattle.sw_core.specs.Worlds.{keeper_seen, sight_of}
use Rattle.sw_peer.specs.Sights.{IsBaseRead}
use Rattle.sw_quiet.proofs.Trails.{base-blind, calls-quiet}
use Rattle.sw_quiet.proofs.quiet_world.pending.QuietWorldPendingDoor.base_for.Goals as goal

pub returns-clause-read : goal.returns-clause-read
returns-clause-read g c =
    let v = g.V.Volume in let k = g.K.Keeper in
    rw (sym c.self.view_is, c.take_trail.ensures.after)
    (calls-quiet (IsBaseRead c.args.link c.args.device c.args.filed.now) (base-blind c.args.link c.args.device c.args.filed.now)
    (sight_of v.tells v.holds v.faults (keeper_seen k.tells k.holds k.faults) c.self.inside.world) c.args.link c.base_for-row.result
    (sight_of v.tells v.holds v.faults (keeper_seen k.tells k.holds k.faults) c.base_for-row.new.self) c.base_for-row.ensures.read)
