use Rattle.std.proofs.Common.{sym}
use Rattle.sw_core.specs.Worlds.{keeper_seen, sight_of}
use Rattle.sw_container_steps.specs.Reads.{listing_of}
use Rattle.sw_peer.specs.ContSights.{IsLooked}
use Rattle.sw_peer.specs.declared.cont_event.ContEvent.TheVariants.{Listed}
use Rattle.sw_quiet.proofs.Trails.{calls-quiet, looked-blind}
use Rattle.sw_quiet.proofs.quiet_world.containers.QuietWorldContainerDoor.list.Goals as goal

pub returns-clause-read : goal.returns-clause-read
returns-clause-read g c =
    let v = g.V.Volume in let k = g.K.Keeper in
    rw (sym c.self.view_is, c.take_trail.ensures.after)
    (calls-quiet (IsLooked c.args.link c.args.device c.args.place.now (listing_of c.args.query.now) (λ got. Listed c.args.place.now c.args.query.now got))
    (looked-blind c.args.link c.args.device c.args.place.now (listing_of c.args.query.now) (λ got. Listed c.args.place.now c.args.query.now got))
    (sight_of v.tells v.holds v.faults (keeper_seen k.tells k.holds k.faults) c.self.inside.world) c.args.link c.list-got.result
    (sight_of v.tells v.holds v.faults (keeper_seen k.tells k.holds k.faults) c.list-got.new.self) c.list-got.ensures.read)
