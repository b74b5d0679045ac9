use Rattle.std.proofs.Common.{sym}
use Rattle.sw_quiet.proofs.quiet_world.QuietWorld.stop.Goals as goal

pub returns-clause-locks : goal.returns-clause-locks
returns-clause-locks g c = rw (sym c.self.view_is) c.stop.ensures.locks
