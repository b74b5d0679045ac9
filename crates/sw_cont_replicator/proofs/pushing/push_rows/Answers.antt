use Rattle.std.proofs.Common.{true, false}
use Rattle.sw_cont_replicator.proofs.Keeping.{push-causes, run-keeps}
use Rattle.sw_cont_replicator.proofs.pushing.push_rows.Goals as goal

pub returns-in_err-kept-clause-moves : goal.returns-in_err-kept-clause-moves
returns-in_err-kept-clause-moves g c =
    let s = g.D.Door.sight in
    (run-keeps c.args.ring.now c.args.from c.args.to c.args.place.now (s c.args.door.now) (s c.run.new.door) c.run.new.outcome false false
    c.in_err-kept.ensures.pushes).moves

pub returns-clause-moves : goal.returns-clause-moves
returns-clause-moves g c =
    let s = g.D.Door.sight in
    (run-keeps c.args.ring.now c.args.from c.args.to c.args.place.now (s c.args.door.now) (s c.run.new.door) c.run.new.outcome c.in_ok-kept.kept true
    c.in_ok-kept.ensures.pushes).moves

pub returns-clause-causes : goal.returns-clause-causes
returns-clause-causes g c =
    let s = g.D.Door.sight in
    push-causes c.args.ring.now c.args.from c.args.to c.args.place.now (s c.args.door.now) c.finish_where.result (s c.run.new.door) c.run.new.outcome
    c.in_ok-kept.kept c.in_ok-kept.ensures.pushes c.finish_where.ensures
