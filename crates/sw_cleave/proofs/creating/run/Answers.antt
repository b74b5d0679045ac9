use Rattle.std.proofs.Common.{List, Ok, Option, Err, false, true, refl, subst, sym}
use Rattle.sw_cleave.proofs.Coming.{comes-ended, comes-then, keeps-from}
use Rattle.sw_cleave.specs.Cleaving.{leaves}
use Rattle.sw_cleave.specs.Creating.{IsFound, IsListGiven, IsListNext, IsRun}
use Rattle.sw_container_steps.specs.Reads.{sharding_of}
use Rattle.sw_container_steps.specs.declared.cont_change.ContChange.TheVariants.{SetRanges}
use Rattle.sw_pass.specs.Outcomes.{cont_hindrance, nothing_yet}
use Rattle.sw_pass.specs.declared.outcome.Outcome.{Outcome}
use Rattle.sw_peer.proofs.Heard.{heard}
use Rattle.sw_peer.specs.ContSights.{IsLooked}
use Rattle.sw_peer.specs.declared.cont_event.ContEvent.TheVariants.{Sharded}
use Rattle.sw_peer.specs.declared.link.Link.TheVariants.{Local}
use Rattle.sw_shard_range.specs.declared.range.Range.{Range}
use Rattle.sw_cleave.proofs.creating.run.Goals as goal

pub returns-in-Some-clause-creates : goal.returns-in-Some-clause-creates
returns-in-Some-clause-creates g c =
    let s = g.D.Door.sight in
    let mid = s c.sharding-read.new.self in
    comes-then (IsListGiven c.args.ring.now c.args.device c.args.place.now (SetRanges c.in-Some.ranges) mid c.args.outcome.now (s c.give_list.new.door)
    c.give_list.new.outcome)
    (IsRun c.args.ring.now c.args.device c.args.place.now c.args.per_shard c.args.time (s c.args.door.now) (s c.give_list.new.door)
    c.give_list.new.outcome)
    (λ came on is. (
      Ok c.in-Ok.sharding,
      mid,
      heard (IsLooked Local c.args.device c.args.place.now sharding_of (λ read. Sharded c.args.place.now read)) (s c.args.door.now) Local
          c.sharding-read.result (Ok (Ok c.in-Ok.sharding)) mid c.in-Ok.ensures c.sharding-read.ensures.read,
      subst (λ (o : Option (List Range)). IsListNext c.args.ring.now c.args.device c.args.place.now c.args.per_shard c.args.time o mid nothing_yet
          (s c.give_list.new.door) c.give_list.new.outcome came on) (sym c.in-Some.is)
          (subst (λ (o : Outcome). IsListGiven c.args.ring.now c.args.device c.args.place.now (SetRanges c.in-Some.ranges) mid o (s c.give_list.new.door)
          c.give_list.new.outcome came on) c.requires.fresh is),
    )) c.give_list.result c.give_list.ensures.gives

pub returns-in-Ok-clause-creates : goal.returns-in-Ok-clause-creates
returns-in-Ok-clause-creates g c =
    let s = g.D.Door.sight in
    let mid = s c.sharding-read.new.self in
    comes-then (IsFound c.args.ring.now c.args.device c.args.place.now c.args.per_shard c.args.time mid c.args.outcome.now (s c.find_ranges.new.door)
    c.find_ranges.new.outcome)
    (IsRun c.args.ring.now c.args.device c.args.place.now c.args.per_shard c.args.time (s c.args.door.now) (s c.find_ranges.new.door)
    c.find_ranges.new.outcome)
    (λ came on is. (
      Ok c.in-Ok.sharding,
      mid,
      heard (IsLooked Local c.args.device c.args.place.now sharding_of (λ read. Sharded c.args.place.now read)) (s c.args.door.now) Local
          c.sharding-read.result (Ok (Ok c.in-Ok.sharding)) mid c.in-Ok.ensures c.sharding-read.ensures.read,
      subst (λ (o : Option (List Range)). IsListNext c.args.ring.now c.args.device c.args.place.now c.args.per_shard c.args.time o mid nothing_yet
          (s c.find_ranges.new.door) c.find_ranges.new.outcome came on) (sym c.in-None.is)
          (subst (λ (o : Outcome). IsFound c.args.ring.now c.args.device c.args.place.now c.args.per_shard c.args.time mid o (s c.find_ranges.new.door)
          c.find_ranges.new.outcome came on) c.requires.fresh is),
    )) c.find_ranges.result c.find_ranges.ensures.creates

pub returns-in_err-keep-in-Err-clause-creates : goal.returns-in_err-keep-in-Err-clause-creates
returns-in_err-keep-in-Err-clause-creates g c =
    let s = g.D.Door.sight in
    let mid = s c.sharding-read.new.self in
    comes-ended (IsRun c.args.ring.now c.args.device c.args.place.now c.args.per_shard c.args.time (s c.args.door.now) mid c.keep.new.outcome)
    c.from_residual.result c.from_residual.ensures.0 (leaves 1) (
      Err c.in-Err.answer,
      mid,
      heard (IsLooked Local c.args.device c.args.place.now sharding_of (λ read. Sharded c.args.place.now read)) (s c.args.door.now) Local
          c.sharding-read.result (Ok (Err c.in-Err.answer)) mid c.in-Err.ensures c.sharding-read.ensures.read,
      (
        refl,
        refl,
        keeps-from c.of_container_answer.result (cont_hindrance c.in-Err.answer) c.args.outcome.now nothing_yet c.keep.new.outcome false
            c.of_container_answer.ensures c.requires.fresh c.in_err-keep-in-Err.ensures,
      ),
    )

pub returns-clause-creates : goal.returns-clause-creates
returns-clause-creates g c =
    let s = g.D.Door.sight in
    let mid = s c.sharding-read.new.self in (
      Err c.in-Err.answer,
      mid,
      heard (IsLooked Local c.args.device c.args.place.now sharding_of (λ read. Sharded c.args.place.now read)) (s c.args.door.now) Local
          c.sharding-read.result (Ok (Err c.in-Err.answer)) mid c.in-Err.ensures c.sharding-read.ensures.read,
      (
        refl,
        c.leaving.ensures,
        keeps-from c.of_container_answer.result (cont_hindrance c.in-Err.answer) c.args.outcome.now nothing_yet c.keep.new.outcome true
            c.of_container_answer.ensures c.requires.fresh c.in_ok-keep-in-Err.ensures,
      ),
    )
