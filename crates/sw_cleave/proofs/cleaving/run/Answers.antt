use Rattle.std.proofs.Common.{Ok, Err, false, true, refl, subst}
use Rattle.sw_cleave.proofs.Coming.{comes-ended, comes-then, keeps-from}
use Rattle.sw_cleave.specs.Cleaving.{IsRun, IsSplitNext, leaves}
use Rattle.sw_container_steps.specs.Reads.{sharding_of}
use Rattle.sw_pass.specs.Outcomes.{cont_hindrance, nothing_yet}
use Rattle.sw_pass.specs.declared.outcome.Outcome.{Outcome}
use Rattle.sw_peer.proofs.Heard.{heard}
use Rattle.sw_peer.specs.ContSights.{IsLooked}
use Rattle.sw_peer.specs.declared.cont_event.ContEvent.TheVariants.{Sharded}
use Rattle.sw_peer.specs.declared.link.Link.TheVariants.{Local}
use Rattle.sw_cleave.proofs.cleaving.run.Goals as goal

pub returns-in-Ok-clause-cleaves : goal.returns-in-Ok-clause-cleaves
returns-in-Ok-clause-cleaves g c =
    let s = g.D.Door.sight in
    let split = c.in-Ok.sharding in
    comes-then (IsSplitNext c.args.ring.now c.args.device c.args.place.now split.ranges split.cursor split.points (s c.sharding-read.new.self)
    c.args.outcome.now (s c.go_on.new.door) c.go_on.new.outcome)
    (IsRun c.args.ring.now c.args.device c.args.place.now (s c.args.door.now) (s c.go_on.new.door) c.go_on.new.outcome)
    (λ came on is. (
      Ok split,
      s c.sharding-read.new.self,
      heard (IsLooked Local c.args.device c.args.place.now sharding_of (λ read. Sharded c.args.place.now read)) (s c.args.door.now) Local
          c.sharding-read.result (Ok (Ok split)) (s c.sharding-read.new.self) c.in-Ok.ensures c.sharding-read.ensures.read,
      subst (λ (o : Outcome). IsSplitNext c.args.ring.now c.args.device c.args.place.now split.ranges split.cursor split.points
          (s c.sharding-read.new.self) o (s c.go_on.new.door) c.go_on.new.outcome came on) c.requires.fresh is,
    )) c.go_on.result c.go_on.ensures.cleaves

pub returns-in_ok-keep-in-Err-clause-cleaves : goal.returns-in_ok-keep-in-Err-clause-cleaves
returns-in_ok-keep-in-Err-clause-cleaves g c =
    let s = g.D.Door.sight in (
      Err c.in-Err.answer,
      s c.sharding-read.new.self,
      heard (IsLooked Local c.args.device c.args.place.now sharding_of (λ read. Sharded c.args.place.now read)) (s c.args.door.now) Local
          c.sharding-read.result (Ok (Err c.in-Err.answer)) (s c.sharding-read.new.self) c.in-Err.ensures c.sharding-read.ensures.read,
      (
        refl,
        c.leaving.ensures,
        keeps-from c.of_container_answer.result (cont_hindrance c.in-Err.answer) c.args.outcome.now nothing_yet c.keep.new.outcome true
            c.of_container_answer.ensures c.requires.fresh c.in_ok-keep-in-Err.ensures,
      ),
    )

pub returns-in_err-keep-in-Err-clause-cleaves : goal.returns-in_err-keep-in-Err-clause-cleaves
returns-in_err-keep-in-Err-clause-cleaves g c =
    let s = g.D.Door.sight in
    comes-ended (IsRun c.args.ring.now c.args.device c.args.place.now (s c.args.door.now) (s c.sharding-read.new.self) c.keep.new.outcome)
    c.from_residual.result c.from_residual.ensures.0 (leaves 1) (
      Err c.in-Err.answer,
      s c.sharding-read.new.self,
      heard (IsLooked Local c.args.device c.args.place.now sharding_of (λ read. Sharded c.args.place.now read)) (s c.args.door.now) Local
          c.sharding-read.result (Ok (Err c.in-Err.answer)) (s c.sharding-read.new.self) c.in-Err.ensures c.sharding-read.ensures.read,
      (
        refl,
        refl,
        keeps-from c.of_container_answer.result (cont_hindrance c.in-Err.answer) c.args.outcome.now nothing_yet c.keep.new.outcome false
            c.of_container_answer.ensures c.requires.fresh c.in_err-keep-in-Err.ensures,
      ),
    )
