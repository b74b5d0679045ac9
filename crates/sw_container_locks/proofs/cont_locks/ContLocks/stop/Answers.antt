use Rattle.std.proofs.Common.{sym}
use Rattle.sw_container_locks.proofs.cont_locks.ContLocks.stop.Goals as goal

pub returns-clause-locks : goal.returns-clause-locks
returns-clause-locks g c = rw (sym c.self.view_is) c.self.invariant.0
