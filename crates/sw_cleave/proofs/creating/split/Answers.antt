use Rattle.std.proofs.Common.{Bool, inl, inr, length, refl, subst, suc, true}
use Rattle.sw_cleave.proofs.Coming.{comes-ended, comes-then}
use Rattle.sw_cleave.specs.Cleaving.{leaves}
use Rattle.sw_cleave.specs.Creating.{AreCreated, IsListSet, IsSplit, others}
use Rattle.sw_container_steps.specs.declared.cont_change.ContChange.TheVariants.{SetRanges}
use Rattle.sw_cleave.proofs.creating.split.Goals as goal

pub returns-in_err-create_all-clause-creates : goal.returns-in_err-create_all-clause-creates
returns-in_err-create_all-clause-creates g c =
    let s = g.D.Door.sight in
    comes-ended (IsSplit c.args.ring.now c.args.device c.args.place.now c.args.time c.args.ranges (s c.args.door.now) c.args.outcome.now
    (s c.create_all.new.door) c.create_all.new.outcome) c.from_residual.result c.from_residual.ensures.0
    (leaves (suc (length (others c.args.ring.now c.args.device c.args.place.now)))) (inr (c.in_err-create_all.ensures.creates, refl))

pub returns-clause-creates : goal.returns-clause-creates
returns-clause-creates g c =
    let s = g.D.Door.sight in
    comes-then (IsListSet c.args.ring.now c.args.device c.args.place.now (SetRanges c.args.ranges) (s c.create_all.new.door) c.create_all.new.outcome
    (s c.set_list.new.door) c.set_list.new.outcome)
    (IsSplit c.args.ring.now c.args.device c.args.place.now c.args.time c.args.ranges (s c.args.door.now) c.args.outcome.now (s c.set_list.new.door)
    c.set_list.new.outcome)
    (λ came on is. inl (
      s c.create_all.new.door,
      c.create_all.new.outcome,
      subst (λ (made : Bool). AreCreated c.args.time c.args.ring.now c.args.ranges (s c.args.door.now) c.args.outcome.now (s c.create_all.new.door)
          c.create_all.new.outcome made true) c.if-not-branch.false c.in_ok-create_all.ensures.creates,
      is,
    )) c.set_list.result c.set_list.ensures.sets
