use Rattle.std.proofs.Common.{Bool, subst, Ok, Err, Some, None}
use Rattle.std.specs.Result.{is_ok}
use Rattle.sw_peer.proofs.Heard.{heard}
use Rattle.sw_peer.specs.Sights.{IsBaseRead}
use Rattle.sw_peer.specs.declared.link.Link.TheVariants.{Local}
use Rattle.sw_redirect.specs.Sending.{course}
use Rattle.sw_updater.proofs.Afterwards.{unread}
use Rattle.sw_updater.specs.Updating.{IsAfterBase, IsRowTold}
use Rattle.sw_updater.proofs.settling.settle.Goals as goal

pub returns-in-Ok-Some-clause-settles : goal.returns-in-Ok-Some-clause-settles
returns-in-Ok-Some-clause-settles g c =
    let s = g.D.Door.sight in
    let task = c.args.task.now in (
      Ok (Some c.in-Ok-Some.row),
      s c.base_for-base.new.self,
      heard (IsBaseRead Local task.device task.filed) (s c.args.door.now) Local c.base_for-base.result (Ok (Ok (Some c.in-Ok-Some.row)))
          (s c.base_for-base.new.self) (cc) c.base_for-base.ensures.read,
      subst (λ (missed : Bool). IsRowTold task.device task.filed c.args.ring.now task.place task.all c.in-Ok-Some.row
          (course (s c.base_for-base.new.self) missed) c.args.outcome.now (course (s c.tell_row.new.door) c.tell_row.new.missed) c.tell_row.new.outcome
          (is_ok c.tell_row.result)) c.requires.fresh c.tell_row.ensures.tells,
    )

pub returns-in-Ok-None-clause-settles : goal.returns-in-Ok-None-clause-settles
returns-in-Ok-None-clause-settles g c =
    let s = g.D.Door.sight in
    let task = c.args.task.now in (
      Ok None,
      s c.base_for-base.new.self,
      heard (IsBaseRead Local task.device task.filed) (s c.args.door.now) Local c.base_for-base.result (Ok (Ok None))
          (s c.base_for-base.new.self) (cc) c.base_for-base.ensures.read,
      subst (λ (missed : Bool). IsAfterBase task.device task.filed c.args.ring.now task.place task.all (Ok None) (course (s c.base_for-base.new.self) missed)
          c.args.outcome.now (course (s c.drop_unneeded.new.door) c.drop_unneeded.new.missed) c.drop_unneeded.new.outcome (is_ok c.drop_unneeded.result))
          c.requires.fresh c.drop_unneeded.ensures.drops,
    )

pub returns-in-Err-clause-settles : goal.returns-in-Err-clause-settles
returns-in-Err-clause-settles g c =
    let s = g.D.Door.sight in
    let task = c.args.task.now in (
      Err c.in-Err.fault,
      s c.base_for-base.new.self,
      heard (IsBaseRead Local task.device task.filed) (s c.args.door.now) Local c.base_for-base.result (Ok (Err c.in-Err.fault))
          (s c.base_for-base.new.self) (cc) c.base_for-base.ensures.read,
      unread c.in-Err.fault c.of_fault.result (s c.base_for-base.new.self) c.miss.new.missed c.args.outcome.now c.miss.new.outcome (is_ok c.miss.result)
          c.of_fault.ensures c.miss.ensures.missed c.miss.ensures.keeps,
    )
