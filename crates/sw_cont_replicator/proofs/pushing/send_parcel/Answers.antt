use Rattle.std.proofs.Common.{inl}
use Rattle.sw_cont_replicator.proofs.pushing.send_parcel.Goals as goal

pub returns-clause-pushes : goal.returns-clause-pushes
returns-clause-pushes g c =
    let s = g.D.Door.sight in
    inl (s c.send_rows.new.door, c.send_rows.new.outcome, c.in_ok-send_rows.ensures.pushes, c.keep_point.ensures.pushes)
