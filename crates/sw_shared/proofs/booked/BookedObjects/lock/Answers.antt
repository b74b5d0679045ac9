use Rattle.std.proofs.Common.{ap}
use Rattle.sw_shared.proofs.Turning.{opened-seen}
use Rattle.sw_shared.proofs.booked.BookedObjects.lock.Goals as goal

pub returns-in-Ok-clause-seen : goal.returns-in-Ok-clause-seen
returns-in-Ok-clause-seen g c =
    let v = g.V.Volume in
    opened-seen v.tells v.holds v.faults c.args.seats c.in-Ok.opened.1.me.0 c.args.dir (ap (λ m. m.0) c.in-Ok.ensures.pass) c.may_stand.ensures
