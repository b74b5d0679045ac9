use Rattle.std.proofs.Common.{sym}
use Rattle.sw_core.specs.Worlds.{keeper_seen, sight_of}
use Rattle.sw_container_steps.specs.Reads.{sharding_of}
use Rattle.sw_peer.specs.ContSights.{IsLooked}
use Rattle.sw_peer.specs.declared.cont_event.ContEvent.TheVariants.{Sharded}
use Rattle.sw_quiet.proofs.Trails.{calls-quiet, looked-blind}
use Rattle.sw_quiet.proofs.quiet_world.containers.QuietWorldContainerDoor.sharding.Goals as goal

pub returns-clause-read : goal.returns-clause-read
returns-clause-read g c =
    let v = g.V.Volume in let k = g.K.Keeper in
    rw (sym c.self.view_is, c.take_trail.ensures.after)
    (calls-quiet (IsLooked c.args.link c.args.device c.args.place.now sharding_of (λ got. Sharded c.args.place.now got))
    (looked-blind c.args.link c.args.device c.args.place.now sharding_of (λ got. Sharded c.args.place.now got))
    (sight_of v.tells v.holds v.faults (keeper_seen k.tells k.holds k.faults) c.self.inside.world) c.args.link c.sharding-got.result
    (sight_of v.tells v.holds v.faults (keeper_seen k.tells k.holds k.faults) c.sharding-got.new.self) c.sharding-got.ensures.read)
