use Rattle.std.proofs.Common.{◌∙◌, ℕ, Bool, List, false, true, subst}
use Rattle.sw_cleave.proofs.Coming.{told-ended}
use Rattle.sw_cleave.proofs.Making.{make-ended, make-more}
use Rattle.sw_cleave.specs.Creating.{AreCreated, IsCreatedAt}
use Rattle.sw_pass.specs.Rings.{replicas_in}
use Rattle.sw_shard_range.specs.declared.range.Range.{Range}
use Rattle.sw_cleave.proofs.creating.create_all.Goals as goal

pub loop-range-preserved : goal.loop-range-preserved
loop-range-preserved g c =
    let s = g.D.Door.sight in
    let range = c.range-item.result in
    record {
      creates = make-more (λ (r : Range). IsCreatedAt c.args.time r.shard (replicas_in c.args.ring.now r.shard)) c.as_slice-range-items.result.now
          c.loop-range.range-index range (s c.args.door.now) c.args.outcome.now (s c.loop-range.door) c.loop-range.outcome (s c.create_at.new.door)
          c.create_at.new.outcome c.loop-range-test.true c.range-item.is c.loop-range.invariant.creates
          (subst (λ (devices : List ℕ). IsCreatedAt c.args.time range.shard devices (s c.loop-range.door) c.loop-range.outcome (s c.create_at.new.door)
          c.create_at.new.outcome true true) c.devices_of.ensures.value
          (subst (λ (made : Bool). IsCreatedAt c.args.time range.shard c.devices_of.result.now (s c.loop-range.door) c.loop-range.outcome
          (s c.create_at.new.door) c.create_at.new.outcome made true) c.if-not-branch.false c.in_ok-create_at.ensures.creates));
      nodes = c.create_at.ensures.nodes ∙ c.loop-range.invariant.nodes;
      asks = c.create_at.ensures.asks ∙ c.loop-range.invariant.asks;
    }

pub returns-then-not-branch-clause-creates : goal.returns-then-not-branch-clause-creates
returns-then-not-branch-clause-creates g c =
    let s = g.D.Door.sight in
    let range = c.range-item.result in
    subst (λ (all : List Range). AreCreated c.args.time c.args.ring.now all (s c.args.door.now) c.args.outcome.now (s c.create_at.new.door)
    c.create_at.new.outcome false true) c.as_slice-range-items.ensures.value
    (make-ended (λ (r : Range). IsCreatedAt c.args.time r.shard (replicas_in c.args.ring.now r.shard)) c.as_slice-range-items.result.now
    c.loop-range.range-index range (s c.args.door.now) c.args.outcome.now (s c.loop-range.door) c.loop-range.outcome (s c.create_at.new.door)
    c.create_at.new.outcome true c.loop-range-test.true c.range-item.is c.loop-range.invariant.creates
    (subst (λ (devices : List ℕ). IsCreatedAt c.args.time range.shard devices (s c.loop-range.door) c.loop-range.outcome (s c.create_at.new.door)
    c.create_at.new.outcome false true) c.devices_of.ensures.value
    (subst (λ (made : Bool). IsCreatedAt c.args.time range.shard c.devices_of.result.now (s c.loop-range.door) c.loop-range.outcome
    (s c.create_at.new.door) c.create_at.new.outcome made true) c.if-not-branch.true c.in_ok-create_at.ensures.creates)))

pub returns-in_err-create_at-clause-creates : goal.returns-in_err-create_at-clause-creates
returns-in_err-create_at-clause-creates g c =
    let s = g.D.Door.sight in
    let range = c.range-item.result in
    told-ended (AreCreated c.args.time c.args.ring.now c.args.ranges.now (s c.args.door.now) c.args.outcome.now (s c.create_at.new.door)
    c.create_at.new.outcome) c.from_residual.result c.from_residual.ensures.0
    (subst (λ (all : List Range). AreCreated c.args.time c.args.ring.now all (s c.args.door.now) c.args.outcome.now (s c.create_at.new.door)
    c.create_at.new.outcome false false) c.as_slice-range-items.ensures.value
    (make-ended (λ (r : Range). IsCreatedAt c.args.time r.shard (replicas_in c.args.ring.now r.shard)) c.as_slice-range-items.result.now
    c.loop-range.range-index range (s c.args.door.now) c.args.outcome.now (s c.loop-range.door) c.loop-range.outcome (s c.create_at.new.door)
    c.create_at.new.outcome false c.loop-range-test.true c.range-item.is c.loop-range.invariant.creates
    (subst (λ (devices : List ℕ). IsCreatedAt c.args.time range.shard devices (s c.loop-range.door) c.loop-range.outcome (s c.create_at.new.door)
    c.create_at.new.outcome false false) c.devices_of.ensures.value c.in_err-create_at.ensures.creates)))
