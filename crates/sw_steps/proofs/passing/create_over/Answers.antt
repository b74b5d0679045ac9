use Rattle.std.proofs.Common.{subst}
use Rattle.sw_cleave.specs.Creating.{IsCreate}
use Rattle.sw_lossy.specs.Losses.{around}
use Rattle.sw_peer.specs.Sights.{Sight}
use Rattle.sw_steps.proofs.Running.{begun-as}
use Rattle.sw_steps.proofs.passing.create_over.Goals as goal

pub returns : goal.returns
returns g c =
    let see = g.D.Door.sight in
    let begun = c.begin.new.self in
    let now = c.create_shards.new.door in
    record {
      acts_behind = now.acts;
      messages = now.messages;
      faults = now.faults;
      asks = now.asks;
      creates =
          subst (λ (s : Sight). IsCreate c.args.ring.now c.args.device c.args.place.now c.args.per_shard c.args.time s c.create_shards.result
          (around (see now.door) now.acts now.messages now.faults now.asks))
          (begun-as see c.args.door.now.door begun.door c.args.acts begun.acts begun.messages begun.faults begun.asks
          c.begin.ensures.door c.begin.ensures.acts c.begin.ensures.messages c.begin.ensures.faults c.begin.ensures.asks)
          c.create_shards.ensures.creates;
    }
