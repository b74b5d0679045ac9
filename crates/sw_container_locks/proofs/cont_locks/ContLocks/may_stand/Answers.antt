use Rattle.std.proofs.Common.{sym}
use Rattle.sw_container_locks.proofs.Keeping.{at-open}
use Rattle.sw_container_locks.proofs.Placed.{may-stand}
use Rattle.sw_container_locks.proofs.cont_locks.ContLocks.may_stand.Goals as goal

pub returns : goal.returns
returns g c =
    let k = g.K.Keeper in
    let all = c.self.inside.slots.items in
    let is_open = rw (sym c.self.view_is) at c.requires.is_open in
    let there = at-open all c.args.lock c.index.result.now c.in-Open.dir is_open c.index.ensures c.in-Open.is in
    rw (sym c.self.view_is)
    (may-stand k.tells k.holds k.faults all c.args.lock c.in-Open.dir there (c.self.invariant.0 c.args.lock c.in-Open.dir there) c.may_stand.ensures)
