use Rattle.sw_cleave.proofs.Causing.{run-causes}
use Rattle.sw_cleave.proofs.cleaving.cleave_next.Goals as goal

pub returns-clause-causes : goal.returns-clause-causes
returns-clause-causes g c =
    let s = g.D.Door.sight in
    run-causes c.args.ring.now c.args.device c.args.place.now (s c.args.door.now) (s c.run.new.door) c.run.new.outcome c.in_ok-came.came c.end.result
    c.in_ok-came.ensures.cleaves c.end.ensures
