use Rattle.std.proofs.Common.{inl, inr, refl}
use Rattle.sw_cont_replicator.proofs.Ending.{ended-off}
use Rattle.sw_redirect.specs.Sending.{course}
use Rattle.sw_cont_replicator.proofs.pushing.leave_to.Goals as goal

pub returns-in_err-send_on-clause-leaves : goal.returns-in_err-send_on-clause-leaves
returns-in_err-send_on-clause-leaves g c row same =
    let s = g.D.Door.sight in
    inr (
      course (s c.send_on.new.door) c.send_on.new.missed,
      c.in_err-send_on.ensures.sends row same,
      refl,
      ended-off c.from_residual.result c.from_residual.ensures.0,
    )

pub returns-clause-leaves : goal.returns-clause-leaves
returns-clause-leaves g c row same =
    let s = g.D.Door.sight in
    inl (
      course (s c.send_on.new.door) c.send_on.new.missed,
      c.send_on.new.outcome,
      c.in_ok-send_on.ensures.sends row same,
      refl,
      c.leave_where.ensures,
      refl,
    )
