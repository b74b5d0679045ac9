use Rattle.std.proofs.Common.{◌≡◌, ◌∙◌, Bool, false, true, get_or, subst}
use Rattle.std.proofs.lemmas.List.{get_or_default}
use Rattle.sw_cleave.proofs.Coming.{told-ended}
use Rattle.sw_cleave.proofs.Making.{make-ended, make-more}
use Rattle.sw_cleave.specs.Creating.{IsCreated, IsCreatedAt}
use Rattle.sw_cleave.proofs.creating.create_at.Goals as goal

pub loop-to-preserved : goal.loop-to-preserved
loop-to-preserved g c =
    let s = g.D.Door.sight in
    let all = c.args.devices.now in
    let i = c.loop-to.to-index in
    let to = get_or all i 0 in
    let is : to ≡ get_or all i to = get_or_default all i 0 to c.loop-to-test.true in
    let one = IsCreated c.args.time c.args.shard.now in
    record {
      creates = make-more one all i to (s c.args.door.now) c.args.outcome.now (s c.loop-to.door) c.loop-to.outcome (s c.create.new.door)
          c.create.new.outcome c.loop-to-test.true is c.loop-to.invariant.creates
          (subst (λ (made : Bool). one to (s c.loop-to.door) c.loop-to.outcome (s c.create.new.door) c.create.new.outcome made true) c.if-not-branch.false
          c.in_ok-create.ensures.creates);
      nodes = c.create.ensures.nodes ∙ c.loop-to.invariant.nodes;
      asks = c.create.ensures.asks ∙ c.loop-to.invariant.asks;
    }

pub returns-then-not-branch-clause-creates : goal.returns-then-not-branch-clause-creates
returns-then-not-branch-clause-creates g c =
    let s = g.D.Door.sight in
    let all = c.args.devices.now in
    let i = c.loop-to.to-index in
    let to = get_or all i 0 in
    let is : to ≡ get_or all i to = get_or_default all i 0 to c.loop-to-test.true in
    let one = IsCreated c.args.time c.args.shard.now in
    make-ended one all i to (s c.args.door.now) c.args.outcome.now (s c.loop-to.door) c.loop-to.outcome (s c.create.new.door) c.create.new.outcome true
    c.loop-to-test.true is c.loop-to.invariant.creates
    (subst (λ (made : Bool). one to (s c.loop-to.door) c.loop-to.outcome (s c.create.new.door) c.create.new.outcome made true) c.if-not-branch.true
    c.in_ok-create.ensures.creates)

pub returns-in_err-create-clause-creates : goal.returns-in_err-create-clause-creates
returns-in_err-create-clause-creates g c =
    let s = g.D.Door.sight in
    let all = c.args.devices.now in
    let i = c.loop-to.to-index in
    let to = get_or all i 0 in
    let is : to ≡ get_or all i to = get_or_default all i 0 to c.loop-to-test.true in
    told-ended
    (IsCreatedAt c.args.time c.args.shard.now all (s c.args.door.now) c.args.outcome.now (s c.create.new.door) c.create.new.outcome)
    c.from_residual.result c.from_residual.ensures.0
    (make-ended (IsCreated c.args.time c.args.shard.now) all i to (s c.args.door.now) c.args.outcome.now (s c.loop-to.door) c.loop-to.outcome
    (s c.create.new.door) c.create.new.outcome false c.loop-to-test.true is c.loop-to.invariant.creates c.in_err-create.ensures.creates)
