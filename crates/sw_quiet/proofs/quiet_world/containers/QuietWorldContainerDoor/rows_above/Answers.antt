use Rattle.std.proofs.Common.{sym}
use Rattle.sw_core.specs.Worlds.{keeper_seen, sight_of}
use Rattle.sw_container_steps.specs.Reads.{range_parcel_of}
use Rattle.sw_peer.specs.ContSights.{IsLooked}
use Rattle.sw_peer.specs.declared.cont_event.ContEvent.TheVariants.{Cleft}
use Rattle.sw_quiet.proofs.Trails.{calls-quiet, looked-blind}
use Rattle.sw_quiet.proofs.quiet_world.containers.QuietWorldContainerDoor.rows_above.Goals as goal

pub returns-clause-read : goal.returns-clause-read
returns-clause-read g c =
    let v = g.V.Volume in let k = g.K.Keeper in
    rw (sym c.self.view_is, c.take_trail.ensures.after)
    (calls-quiet (IsLooked c.args.link c.args.device c.args.place.now (range_parcel_of c.args.range c.args.above)
    (λ got. Cleft c.args.place.now c.args.range c.args.above got))
    (looked-blind c.args.link c.args.device c.args.place.now (range_parcel_of c.args.range c.args.above)
    (λ got. Cleft c.args.place.now c.args.range c.args.above got))
    (sight_of v.tells v.holds v.faults (keeper_seen k.tells k.holds k.faults) c.self.inside.world) c.args.link c.rows_above-got.result
    (sight_of v.tells v.holds v.faults (keeper_seen k.tells k.holds k.faults) c.rows_above-got.new.self) c.rows_above-got.ensures.read)
