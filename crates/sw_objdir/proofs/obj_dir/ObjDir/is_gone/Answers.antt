use Rattle.std.proofs.Common.{◌++◌, refl, ◌∙◌, ap, subst, nat_lt, length}
use Rattle.std.specs.Option.{option_map}
use Rattle.sw_journal.specs.Entries.{first_in}
use Rattle.sw_objdir.proofs.Doubts.{briefs-none, briefs-told}
use Rattle.sw_objdir.proofs.RecordFinding.{looks-wants}
use Rattle.sw_objdir.proofs.RecordTelling.{gone-came}
use Rattle.sw_objdir.specs.Directories.{IsDir, Kept}
use Rattle.sw_objdir.specs.Stepping.{told_of}
use Rattle.sw_object_steps.specs.Briefs.{brief_of}
use Rattle.sw_objdir.proofs.obj_dir.ObjDir.is_gone.Goals as goal

pub returns-in_default-clause-told : goal.returns-in_default-clause-told
returns-in_default-clause-told g c =
    let v = g.V.Volume in
    let k = c.args.self.now in let name = c.args.name.now in
    let dir : IsDir v.tells v.holds v.faults k = subst (λ (x : Kept _). IsDir v.tells v.holds v.faults x) c.self.view_is c.self.invariant in
    looks-wants v.tells v.holds v.faults v.calls v.lists k dir name c.args.time

pub returns-in_default-clause-briefs : goal.returns-in_default-clause-briefs
returns-in_default-clause-briefs g c =
    let j = c.args.self.now.journal in
    briefs-none j.entries j.entries c.args.settled.now.items c.doubt_ready.new.settled.items refl c.doubt_ready.ensures.kept

pub returns-clause-briefs : goal.returns-clause-briefs
returns-clause-briefs g c =
    let v = g.V.Volume in
    let k = c.args.self.now in let n = c.look_gone-gone.new.self in let name = c.args.name.now in
    let doubt = c.doubted.ensures ∙ ap (λ (x : Kept _). first_in name.hash x.journal.doubts) c.self.view_is in
    let more = ap (λ from. nat_lt from c.front.result) c.front-front.ensures.length ∙ ap (nat_lt (length k.journal.entries)) c.front.ensures.length in
    briefs-told (first_in name.hash k.journal.doubts) k.journal.entries n.journal.entries c.args.settled.now.items c.tell.new.settled.items
    c.in-Ok.brief (nat_lt c.front-front.result c.front.result)
    (gone-came v.tells v.holds v.faults v.calls v.lists k name c.args.time c.look_gone-gone.result n c.look_gone-gone.ensures)
    (c.in-Ok.ensures.brief ∙ ap (option_map brief_of) doubt) more
    (c.tell.ensures ∙ ap (λ l. l ++ told_of c.in-Ok.brief (nat_lt c.front-front.result c.front.result)) c.in-Ok.ensures.kept)
