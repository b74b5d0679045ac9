use Rattle.std.proofs.Common.{sym}
use Rattle.sw_objdir.proofs.obj_dir.ObjDir.may_stand.Goals as goal

pub returns : goal.returns
returns g c = rw (sym c.self.view_is) c.self.invariant.kept.can
