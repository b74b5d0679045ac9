use Rattle.std.proofs.Common.{sym}
use Rattle.sw_container_db.proofs.cont_dir.ContDir.may_stand.Goals as goal

pub returns : goal.returns
returns g c = rw (sym c.self.view_is) c.self.invariant.fits
