use Rattle.std.proofs.Common.{refl, Ok, Err}
use Rattle.sw_container_steps.specs.Reads.{sharding_of}
use Rattle.sw_peer.proofs.Heard.{heard}
use Rattle.sw_peer.specs.ContSights.{IsLooked}
use Rattle.sw_peer.specs.declared.cont_event.ContEvent.TheVariants.{Sharded}
use Rattle.sw_peer.specs.declared.link.Link.TheVariants.{Local}
use Rattle.sw_sharded_listing.proofs.listing.list_across.Goals as goal

pub returns-in-Ok-clause-lists : goal.returns-in-Ok-clause-lists
returns-in-Ok-clause-lists g c =
    let s = g.D.Door.sight in (
      Ok c.in-Ok.sharding,
      s c.sharding-read.new.self,
      heard (IsLooked Local c.args.device c.args.place.now sharding_of (λ read. Sharded c.args.place.now read)) (s c.args.door.now) Local
          c.sharding-read.result (Ok (Ok c.in-Ok.sharding)) (s c.sharding-read.new.self) c.in-Ok.ensures c.sharding-read.ensures.read,
      c.list_over.ensures.lists,
    )

pub returns-in-Err-clause-lists : goal.returns-in-Err-clause-lists
returns-in-Err-clause-lists g c =
    let s = g.D.Door.sight in (
      Err c.in-Err.answer,
      s c.sharding-read.new.self,
      heard (IsLooked Local c.args.device c.args.place.now sharding_of (λ read. Sharded c.args.place.now read)) (s c.args.door.now) Local
          c.sharding-read.result (Ok (Err c.in-Err.answer)) (s c.sharding-read.new.self) c.in-Err.ensures c.sharding-read.ensures.read,
      (refl, refl),
    )
