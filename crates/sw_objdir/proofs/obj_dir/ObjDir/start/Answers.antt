use Rattle.sw_objdir.proofs.Told.{begins}
use Rattle.sw_objdir.proofs.obj_dir.ObjDir.start.Goals as goal

pub invariant_of-result : goal.invariant_of-result
invariant_of-result g c = let v = g.V.Volume in
    rw (c.of.ensures, c.new.ensures)
    (begins v.tells v.holds v.faults c.args.volume c.args.secrets c.args.power c.args.max_entries c.args.max_bytes c.requires.least c.requires.greatest)
