use Rattle.std.proofs.Common.{refl}
use Rattle.sw_objdir.proofs.Doubts.{briefs-none}
use Rattle.sw_objdir.proofs.obj_dir.ObjDir.may_go.Goals as goal

pub returns-then-are_done-clause-briefs : goal.returns-then-are_done-clause-briefs
returns-then-are_done-clause-briefs g c =
    let j = c.args.self.now.journal in briefs-none j.entries j.entries c.args.settled.now.items c.args.settled.now.items refl refl
