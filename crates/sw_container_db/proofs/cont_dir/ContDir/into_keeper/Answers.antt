use Rattle.std.proofs.Common.{sym}
use Rattle.sw_container_db.proofs.cont_dir.ContDir.into_keeper.Goals as goal

pub returns-clause-stands : goal.returns-clause-stands
returns-clause-stands g c = rw (sym c.self.view_is) c.self.invariant.fits
