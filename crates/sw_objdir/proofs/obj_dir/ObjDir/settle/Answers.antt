use Rattle.std.proofs.Common.{Some, refl, sym, ◌∙◌, ap, length, nat_lt}
use Rattle.std.specs.Option.{option_map}
use Rattle.sw_journal.specs.Entries.{first_in}
use Rattle.sw_object_steps.specs.Briefs.{brief_of}
use Rattle.sw_objdir.proofs.Doubts.{briefs-none, briefs-told, once-at-most, settles-first, write-came}
use Rattle.sw_objdir.proofs.obj_dir.ObjDir.settle.Goals as goal

pub returns-in_err-dir-clause-briefs : goal.returns-in_err-dir-clause-briefs
returns-in_err-dir-clause-briefs g c =
    let j = c.args.self.now.journal in briefs-none j.entries j.entries c.args.settled.now.items c.args.settled.now.items refl refl

pub returns-in_err-list-clause-briefs : goal.returns-in_err-list-clause-briefs
returns-in_err-list-clause-briefs g c =
    briefs-none c.args.self.now.journal.entries c.list.new.self.journal.entries c.args.settled.now.items c.args.settled.now.items
    (ap (λ j. j.entries) c.in_err-list.ensures.unsettled) refl

pub returns-in_err-list-clause-one_call : goal.returns-in_err-list-clause-one_call
returns-in_err-list-clause-one_call g c =
    let v = g.V.Volume in
    once-at-most v.calls v.lists c.from_residual-in_err-list.result c.args.self.now c.list.new.self
    (record { called = c.list.ensures.calls; listings = c.list.ensures.lists })

pub returns-clause-briefs : goal.returns-clause-briefs
returns-clause-briefs g c =
    let first = c.requires.first in let k = c.args.self.now in let n = c.list.new.self in
    let more = ap (λ from. nat_lt from c.front.result) c.front-front.ensures.length ∙ ap (nat_lt (length k.journal.entries)) c.front.ensures.length in
    briefs-told (first_in c.args.hash.now k.journal.doubts) k.journal.entries n.journal.entries c.args.settled.now.items c.tell.new.settled.items
    (Some c.args.brief) (nat_lt c.front-front.result c.front.result)
    (write-came c.args.hash.now _ k.journal n.journal c.in_ok-list.ensures.settles)
    (ap Some first.2 ∙ sym (ap (option_map brief_of) first.1)) more c.tell.ensures

pub returns-clause-fewer : goal.returns-clause-fewer
returns-clause-fewer g c =
    let first = c.requires.first in (settles-first c.args.hash.now _ _ _ first.0 first.1 c.in_ok-list.ensures.settles).fewer
