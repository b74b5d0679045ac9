use Rattle.std.proofs.Common.{List, ◌∷◌, [], ◌++◌, refl, ◌∙◌, ap, subst}
use Rattle.sw_object_steps.specs.Journals.{Journal}
use Rattle.sw_object_steps.specs.declared.entry.Brief.{Brief}
use Rattle.sw_object_steps.specs.declared.entry.ObjEntry.{ObjEntry}
use Rattle.sw_object_steps.specs.declared.entry.ObjEntry.TheVariants.{Marked}
use Rattle.sw_objdir.proofs.Doubts.{briefs-none, briefs-one}
use Rattle.sw_objdir.proofs.RecordEnding.{wants-first}
use Rattle.sw_objdir.specs.Directories.{IsDir, Kept}
use Rattle.sw_pending.specs.Records.{key_of}
use Rattle.sw_objdir.proofs.obj_dir.ObjDir.put_marked.Goals as goal

pub returns-in_default-clause-ended : goal.returns-in_default-clause-ended
returns-in_default-clause-ended g c =
    let v = g.V.Volume in
    let k = c.args.self.now in let marked = c.args.marked in
    let dir : IsDir v.tells v.holds v.faults k = subst (λ (x : Kept _). IsDir v.tells v.holds v.faults x) c.self.view_is c.self.invariant in
    wants-first v.tells v.holds v.faults v.calls v.lists k dir (key_of marked) (Marked marked.name.hash marked c.args.device)

pub put_entry-requires-clause-puts : goal.put_entry-requires-clause-puts
put_entry-requires-clause-puts g c = (c.args.marked, record { leaves = refl; plain = refl; name = c.requires.name })

pub returns-in-Ok-put_entry-clause-ended : goal.returns-in-Ok-put_entry-clause-ended
returns-in-Ok-put_entry-clause-ended g c =
    (refl, record { room = c.requires.room; so = c.in-Ok-put_entry.ensures c.args.marked refl })

pub returns-in-Ok-put_entry-clause-briefs : goal.returns-in-Ok-put_entry-clause-briefs
returns-in-Ok-put_entry-clause-briefs g c =
    let marked = c.args.marked in let e : ObjEntry = Marked marked.name.hash marked c.args.device in
    let enters = c.in-Ok-put_entry.ensures marked refl in
    briefs-one c.args.self.now.journal.entries c.put_entry.new.self.journal.entries c.args.settled.now.items c.push_reserved.new.self.items e c.in-Ok.brief
    (ap (λ (j : Journal). j.entries) enters.entered) c.in-Ok.ensures.brief
    (◌∙◌ {A = List Brief} c.push_reserved.ensures.items (ap (λ (l : List Brief). l ++ c.in-Ok.brief ∷ []) c.brief_ready.ensures.kept))

pub returns-in-Err-Failed-clause-ended : goal.returns-in-Err-Failed-clause-ended
returns-in-Err-Failed-clause-ended g c =
    let failed = rw c.in-Err-Failed.field-0-is at c.in-Err-Failed.ensures in
    record { room = c.requires.room; so = failed c.args.marked refl }

pub returns-in-Err-Failed-clause-briefs : goal.returns-in-Err-Failed-clause-briefs
returns-in-Err-Failed-clause-briefs g c =
    let failed = rw c.in-Err-Failed.field-0-is at c.in-Err-Failed.ensures in
    briefs-none c.args.self.now.journal.entries c.put_entry.new.self.journal.entries c.args.settled.now.items c.brief_ready.new.settled.items
    (ap (λ (j : Journal). j.entries) (failed c.args.marked refl).in_doubt) c.brief_ready.ensures.kept

pub returns-clause-ended : goal.returns-clause-ended
returns-clause-ended g c =
    let wanted = rw c.in-Err-NoMemory.field-0-is at c.in-Err-NoMemory.ensures in
    wanted c.args.marked refl

pub returns-clause-briefs : goal.returns-clause-briefs
returns-clause-briefs g c =
    let wanted = rw c.in-Err-NoMemory.field-0-is at c.in-Err-NoMemory.ensures in
    briefs-none c.args.self.now.journal.entries c.put_entry.new.self.journal.entries c.args.settled.now.items c.brief_ready.new.settled.items
    (ap (λ (j : Journal). j.entries) (wanted c.args.marked refl).kept) c.brief_ready.ensures.kept
