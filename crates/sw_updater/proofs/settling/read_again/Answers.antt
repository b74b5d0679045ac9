use Rattle.std.proofs.Common.{Ok, Err, Some, None}
use Rattle.std.specs.Result.{is_ok}
use Rattle.sw_peer.proofs.Heard.{heard}
use Rattle.sw_peer.specs.Sights.{IsBaseRead}
use Rattle.sw_peer.specs.declared.link.Link.TheVariants.{Local}
use Rattle.sw_redirect.specs.Sending.{course}
use Rattle.sw_updater.proofs.Afterwards.{unchanged, unread}
use Rattle.sw_updater.proofs.settling.read_again.Goals as goal

pub returns-in-Ok-Some-clause-reads : goal.returns-in-Ok-Some-clause-reads
returns-in-Ok-Some-clause-reads g c =
    let s = g.D.Door.sight in
    let task = c.args.task.now in (
      Ok (Some c.in-Ok-Some.row),
      s c.base_for-base.new.self,
      heard (IsBaseRead Local task.device task.filed) (s c.args.door.now) Local c.base_for-base.result (Ok (Ok (Some c.in-Ok-Some.row)))
          (s c.base_for-base.new.self) (cc) c.base_for-base.ensures.read,
      c.tell_row.ensures.tells,
    )

pub returns-in-Ok-None-clause-reads : goal.returns-in-Ok-None-clause-reads
returns-in-Ok-None-clause-reads g c =
    let s = g.D.Door.sight in
    let task = c.args.task.now in (
      Ok None,
      s c.base_for-base.new.self,
      heard (IsBaseRead Local task.device task.filed) (s c.args.door.now) Local c.base_for-base.result (Ok (Ok None))
          (s c.base_for-base.new.self) (cc) c.base_for-base.ensures.read,
      unchanged (course (s c.base_for-base.new.self) c.args.missed.now) c.args.outcome.now,
    )

pub returns-in-Err-clause-reads : goal.returns-in-Err-clause-reads
returns-in-Err-clause-reads g c =
    let s = g.D.Door.sight in
    let task = c.args.task.now in (
      Err c.in-Err.fault,
      s c.base_for-base.new.self,
      heard (IsBaseRead Local task.device task.filed) (s c.args.door.now) Local c.base_for-base.result (Ok (Err c.in-Err.fault))
          (s c.base_for-base.new.self) (cc) c.base_for-base.ensures.read,
      unread c.in-Err.fault c.of_fault.result (s c.base_for-base.new.self) c.miss.new.missed c.args.outcome.now c.miss.new.outcome (is_ok c.miss.result)
          c.of_fault.ensures c.miss.ensures.missed c.miss.ensures.keeps,
    )
