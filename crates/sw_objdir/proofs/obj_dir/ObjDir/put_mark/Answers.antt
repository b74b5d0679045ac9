use Rattle.std.proofs.Common.{subst}
use Rattle.sw_object_steps.specs.declared.entry.ObjEntry.TheVariants.{Marked}
use Rattle.sw_objdir.proofs.RecordEnding.{wants-first}
use Rattle.sw_objdir.specs.Directories.{IsDir, Kept}
use Rattle.sw_pending.specs.Records.{key_of, marked}
use Rattle.sw_objdir.proofs.obj_dir.ObjDir.put_mark.Goals as goal

pub returns-in_default-clause-ended : goal.returns-in_default-clause-ended
returns-in_default-clause-ended g c =
    let v = g.V.Volume in
    let k = c.args.self.now in let stood = c.args.stood in
    let dir : IsDir v.tells v.holds v.faults k = subst (λ (x : Kept _). IsDir v.tells v.holds v.faults x) c.self.view_is c.self.invariant in
    wants-first v.tells v.holds v.faults v.calls v.lists k dir (key_of stood) (Marked stood.name.hash (marked stood c.args.device) c.args.device)
