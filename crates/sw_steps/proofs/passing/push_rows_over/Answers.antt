use Rattle.std.proofs.Common.{subst}
use Rattle.sw_lossy.specs.Losses.{around}
use Rattle.sw_peer.specs.Sights.{Sight}
use Rattle.sw_cont_replicator.specs.Pushing.{IsPush}
use Rattle.sw_steps.proofs.Running.{begun-as}
use Rattle.sw_steps.proofs.passing.push_rows_over.Goals as goal

pub returns : goal.returns
returns g c =
    let see = g.D.Door.sight in
    let begun = c.begin.new.self in
    let now = c.push_rows.new.door in
    record {
      acts_behind = now.acts;
      messages = now.messages;
      faults = now.faults;
      asks = now.asks;
      pushes =
          subst (λ (s : Sight). IsPush c.args.from c.args.to c.args.place.now c.args.ring.now s c.push_rows.result
          (around (see now.door) now.acts now.messages now.faults now.asks))
          (begun-as see c.args.door.now.door begun.door c.args.acts begun.acts begun.messages begun.faults begun.asks
          c.begin.ensures.door c.begin.ensures.acts c.begin.ensures.messages c.begin.ensures.faults c.begin.ensures.asks)
          c.push_rows.ensures.pushes;
    }
