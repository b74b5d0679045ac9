use Rattle.std.proofs.Common.{Bool, true, inl, inr, refl, subst, sym}
use Rattle.sw_redirect.specs.Sending.{course}
use Rattle.sw_updater.proofs.Afterwards.{ended}
use Rattle.sw_updater.specs.Updating.{IsFollowed}
use Rattle.sw_updater.proofs.telling.follow.Goals as goal

pub returns-in_err-send_on-clause-follows : goal.returns-in_err-send_on-clause-follows
returns-in_err-send_on-clause-follows g c row is =
    let s = g.D.Door.sight in
    let task = c.args.task.now in
    subst (λ (on : Bool). IsFollowed task.device task.filed c.args.ring.now row c.args.to c.args.shard.now (course (s c.args.door.now) c.args.missed.now)
    c.args.outcome.now (course (s c.send_on.new.door) c.args.missed.now) c.send_on.new.outcome on)
    (sym (ended c.from_residual.result c.from_residual.ensures.0))
    (inr (
      course (s c.send_on.new.door) c.send_on.new.missed,
      c.in_err-send_on.ensures.sends row is,
      refl {a = course (s c.send_on.new.door) c.args.missed.now},
      refl,
    ))

pub returns-then-missed_on-clause-follows : goal.returns-then-missed_on-clause-follows
returns-then-missed_on-clause-follows g c row is =
    let s = g.D.Door.sight in
    inl (
      course (s c.send_on.new.door) c.send_on.new.missed,
      c.send_on.new.outcome,
      c.in_ok-send_on.ensures.sends row is,
      inr (c.if-missed_on.true, refl {a = course (s c.send_on.new.door) true}, refl {a = c.send_on.new.outcome}, refl),
    )

pub returns-clause-follows : goal.returns-clause-follows
returns-clause-follows g c row is =
    let s = g.D.Door.sight in
    inl (
      course (s c.send_on.new.door) c.send_on.new.missed,
      c.send_on.new.outcome,
      c.in_ok-send_on.ensures.sends row is,
      inl (c.if-missed_on.false, c.mark.ensures.marks),
    )
