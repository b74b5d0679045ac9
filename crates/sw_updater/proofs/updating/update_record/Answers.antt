use Rattle.std.proofs.Common.{ℕ, inl, refl, subst}
use Rattle.std.specs.Result.{is_ok}
use Rattle.sw_pending.specs.declared.filed.Filed.{Filed}
use Rattle.sw_redirect.specs.Sending.{course}
use Rattle.sw_updater.specs.Updating.{IsSettled}
use Rattle.sw_updater.proofs.updating.update_record.Goals as goal

pub returns-clause-updates : goal.returns-clause-updates
returns-clause-updates g c =
    let s = g.D.Door.sight in
    let ring = c.args.ring.now in
    let task = c.in_ok-task.task in
    let d = course (s c.settle-settled.new.door) c.settle-settled.new.missed in
    inl (
      task.place,
      task.all,
      d,
      c.settle-settled.new.outcome,
      c.in_ok-task.ensures.place,
      c.in_ok-task.ensures.replicas,
      subst (λ (filed : Filed). IsSettled c.args.device filed ring task.place task.all (s c.args.door.now) c.args.outcome.now d c.settle-settled.new.outcome
          (is_ok c.settle-settled.result)) c.in_ok-task.ensures.filed
          (subst (λ (device : ℕ). IsSettled device task.filed ring task.place task.all (s c.args.door.now) c.args.outcome.now d c.settle-settled.new.outcome
          (is_ok c.settle-settled.result)) c.in_ok-task.ensures.device c.settle-settled.ensures.settles),
      refl,
      c.leave_where.ensures,
    )
