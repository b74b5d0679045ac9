use Rattle.std.proofs.Common.{subst}
use Rattle.sw_cleave.specs.Cleaving.{IsCleave}
use Rattle.sw_lossy.specs.Losses.{around}
use Rattle.sw_peer.specs.Sights.{Sight}
use Rattle.sw_steps.proofs.Running.{begun-as}
use Rattle.sw_steps.proofs.passing.cleave_over.Goals as goal

pub returns : goal.returns
returns g c =
    let see = g.D.Door.sight in
    let begun = c.begin.new.self in
    let now = c.cleave_next.new.door in
    record {
      acts_behind = now.acts;
      messages = now.messages;
      faults = now.faults;
      asks = now.asks;
      cleaves =
          subst (λ (s : Sight). IsCleave c.args.ring.now c.args.device c.args.place.now s c.cleave_next.result
          (around (see now.door) now.acts now.messages now.faults now.asks))
          (begun-as see c.args.door.now.door begun.door c.args.acts begun.acts begun.messages begun.faults begun.asks
          c.begin.ensures.door c.begin.ensures.acts c.begin.ensures.messages c.begin.ensures.faults c.begin.ensures.asks)
          c.cleave_next.ensures.cleaves;
    }
