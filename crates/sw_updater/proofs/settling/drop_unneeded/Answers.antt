use Rattle.std.proofs.Common.{◌≡◌, ◌⊎◌, inl, inr, true}
use Rattle.std.specs.Result.{is_ok}
use Rattle.sw_redirect.specs.Sending.{course}
use Rattle.sw_updater.proofs.Afterwards.{nothing-more, once-more}
use Rattle.sw_updater.proofs.settling.drop_unneeded.Goals as goal
use Rattle.sw_updater.proofs.settling.drop_unneeded.Goals.{then-went-via-then-went, then-went-via-else-went+then-missed}

pub returns-then-went-clause-drops : goal.returns-then-went-clause-drops
returns-then-went-clause-drops g c =
    let task = c.args.task.now in
    let d = course (g.D.Door.sight c.drop_record.new.door) c.drop_record.new.missed in
    let why : (c.in_ok-went.went ≡ true) ⊎ (c.drop_record.new.missed ≡ true) =
    elim c.then-went.branch [ then-went-via-then-went w ↦ inl w.if-went.true | then-went-via-else-went+then-missed w ↦ inr w.if-missed.true ] in
    inl (
      d,
      c.drop_record.new.outcome,
      c.in_ok-went.went,
      c.in_ok-went.ensures.drops,
      nothing-more task.device task.filed c.args.ring.now task.place task.all c.in_ok-went.went c.drop_record.new.missed d c.drop_record.new.outcome why,
    )

pub returns-clause-drops : goal.returns-clause-drops
returns-clause-drops g c =
    let s = g.D.Door.sight in
    let task = c.args.task.now in
    let d = course (s c.drop_record.new.door) c.drop_record.new.missed in
    inl (
      d,
      c.drop_record.new.outcome,
      c.in_ok-went.went,
      c.in_ok-went.ensures.drops,
      once-more task.device task.filed c.args.ring.now task.place task.all c.in_ok-went.went c.drop_record.new.missed d c.drop_record.new.outcome
          (course (s c.read_again.new.door) c.read_again.new.missed) c.read_again.new.outcome (is_ok c.read_again.result) c.if-went.false c.if-missed.false
          c.read_again.ensures.reads,
    )
