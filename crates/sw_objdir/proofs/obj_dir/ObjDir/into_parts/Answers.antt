use Rattle.std.proofs.Common.{sym}
use Rattle.sw_objdir.specs.Directories.{Kept}
use Rattle.sw_objdir.proofs.Told.{reopens}
use Rattle.sw_objdir.proofs.obj_dir.ObjDir.into_parts.Goals as goal

pub returns-clause-told : goal.returns-clause-told
returns-clause-told g c =
    let v = g.V.Volume in let i = c.self.inside in
    let k : Kept _ = record { volume = i.volume; began = i.opening.value; secrets = i.secrets; power = i.power; journal = i.journal } in
    rw (sym c.self.view_is) (λ told. reopens v.tells v.holds v.faults k c.self.invariant told)
