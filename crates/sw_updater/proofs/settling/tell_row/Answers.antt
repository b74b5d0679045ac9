use Rattle.std.proofs.Common.{Bool, inl, subst, sym, false}
use Rattle.sw_redirect.specs.Sending.{course}
use Rattle.sw_updater.proofs.Afterwards.{ended}
use Rattle.sw_updater.specs.Updating.{IsRowTold}
use Rattle.sw_updater.proofs.settling.tell_row.Goals as goal

pub returns-in_err-drop_record-clause-tells : goal.returns-in_err-drop_record-clause-tells
returns-in_err-drop_record-clause-tells g c =
    let s = g.D.Door.sight in
    let task = c.args.task.now in
    subst (λ (on : Bool). IsRowTold task.device task.filed c.args.ring.now task.place task.all c.args.row (course (s c.args.door.now) c.args.missed.now)
    c.args.outcome.now (course (s c.drop_record.new.door) c.drop_record.new.missed) c.drop_record.new.outcome on)
    (sym (ended c.from_residual-in_err-drop_record.result c.from_residual-in_err-drop_record.ensures.0))
    (inl (
      course (s c.tell_all.new.door) c.tell_all.new.missed,
      c.tell_all.new.outcome,
      c.in_ok-tell_all.ensures.tells,
      (false, c.in_err-drop_record.ensures.drops),
    ))

pub returns-clause-tells : goal.returns-clause-tells
returns-clause-tells g c =
    let s = g.D.Door.sight in
    inl (
      course (s c.tell_all.new.door) c.tell_all.new.missed,
      c.tell_all.new.outcome,
      c.in_ok-tell_all.ensures.tells,
      (c.in_ok-drop_record.field-0, c.in_ok-drop_record.ensures.drops),
    )
