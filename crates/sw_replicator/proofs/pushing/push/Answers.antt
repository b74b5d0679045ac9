use Rattle.std.proofs.Common.{◌⊎◌, true, false, sym, subst}
use Rattle.sw_pass.specs.declared.outcome.Outcome.{Outcome}
use Rattle.sw_replicator.proofs.Asking.{asks-finished}
use Rattle.sw_replicator.proofs.Keeping.{push-ended, run-causes, run-keeps}
use Rattle.sw_replicator.proofs.Meeting.{push-meets}
use Rattle.sw_replicator.proofs.Reaching.{push-reaches}
use Rattle.sw_replicator.specs.Causes.{AsksEach, AsksOnce, HasCauses}
use Rattle.sw_replicator.proofs.pushing.push.Goals as goal

pub returns-clause-pushes : goal.returns-clause-pushes
returns-clause-pushes g c = (c.run.new.outcome, c.in_ok-run.ensures.pushes, c.finish.ensures)

pub returns-clause-moves : goal.returns-clause-moves
returns-clause-moves g c =
    let s = g.D.Door.sight in
    (run-keeps c.args.from c.args.to c.args.part (s c.args.door.now) (s c.run.new.door) c.run.new.outcome true c.in_ok-run.ensures.pushes).moves

pub returns-clause-reaches : goal.returns-clause-reaches
returns-clause-reaches g c = λ done.
    let s = g.D.Door.sight in
    push-reaches c.args.from c.args.to c.args.part (s c.args.door.now) (s c.run.new.door) c.finish.result (returns-clause-pushes g c) done

pub returns-clause-meets : goal.returns-clause-meets
returns-clause-meets g c = λ done.
    let s = g.D.Door.sight in
    push-meets c.args.from c.args.to c.args.part (s c.args.door.now) (s c.run.new.door) c.finish.result c.requires.apart (returns-clause-pushes g c) done

pub returns-clause-asks : goal.returns-clause-asks
returns-clause-asks g c =
    let s = g.D.Door.sight in
    let start = s c.args.door.now in
    let end = s c.run.new.door in
    subst (λ (o : Outcome). AsksEach c.args.from c.args.to c.args.part start end o ⊎ AsksOnce start end o) (sym c.finish.ensures)
    (asks-finished c.args.from c.args.to c.args.part start end c.run.new.outcome c.in_ok-run.ensures.asks)

pub returns-clause-causes : goal.returns-clause-causes
returns-clause-causes g c =
    let s = g.D.Door.sight in
    let start = s c.args.door.now in
    let end = s c.run.new.door in
    subst (λ (o : Outcome). HasCauses start end o) (sym c.finish.ensures)
    (run-causes c.args.from c.args.to c.args.part start end c.run.new.outcome true c.in_ok-run.ensures.pushes)

pub returns-in_err-run-clause-pushes : goal.returns-in_err-run-clause-pushes
returns-in_err-run-clause-pushes g c =
    let s = g.D.Door.sight in
    push-ended c.args.from c.args.to c.args.part c.from_residual.result (s c.args.door.now)
    (s c.run.new.door) c.run.new.outcome c.from_residual.ensures.0 c.in_err-run.ensures.pushes

pub returns-in_err-run-clause-moves : goal.returns-in_err-run-clause-moves
returns-in_err-run-clause-moves g c =
    let s = g.D.Door.sight in
    (run-keeps c.args.from c.args.to c.args.part (s c.args.door.now) (s c.run.new.door) c.run.new.outcome false c.in_err-run.ensures.pushes).moves
