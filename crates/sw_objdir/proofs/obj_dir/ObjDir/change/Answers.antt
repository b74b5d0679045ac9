use Rattle.std.proofs.Common.{◌++◌, List, refl, sym, ◌∙◌, ap, subst, length, nat_lt, inl}
use Rattle.std.specs.Option.{option_map}
use Rattle.sw_diskfile.specs.declared.file_name.FileName.{FileName}
use Rattle.sw_journal.specs.Entries.{first_in}
use Rattle.sw_objdir.proofs.Looking.{looks-refl, step-after, step-unsettled}
use Rattle.sw_objdir.proofs.RecordTelling.{Tells}
use Rattle.sw_objdir.proofs.WriteEnding.{ends-step}
use Rattle.sw_objdir.proofs.WriteComposing.{called-behind, doubt-tells}
use Rattle.sw_objdir.proofs.WriteComposing.{others-all, others-none}
use Rattle.sw_objdir.proofs.WriteComposing.{others-then}
use Rattle.sw_objdir.proofs.WriteComposing.{write-grown}
use Rattle.sw_objdir.specs.Directories.{IsDir, Kept}
use Rattle.sw_objdir.specs.Stepping.{told_of}
use Rattle.sw_objdir.specs.Writing.{WriteEnds}
use Rattle.sw_object_steps.specs.Briefs.{brief_of}
use Rattle.sw_object_steps.specs.declared.answer.Answer.TheVariants as answers
use Rattle.sw_object_steps.specs.Outlines.{picked_outline}
use Rattle.sw_object_steps.specs.declared.outline.Outline.{Outline}
use Rattle.sw_step.specs.Rules.{Wants}
use Rattle.sw_objdir.proofs.obj_dir.ObjDir.change.Goals as goal

pub returns-in_default-clause-made : goal.returns-in_default-clause-made
returns-in_default-clause-made g c =
    let v = g.V.Volume in
    let k = c.args.self.now in let name = c.args.name.now in let change = c.args.change in
    let dir : IsDir v.tells v.holds v.faults k = subst (λ (x : Kept _). IsDir v.tells v.holds v.faults x) c.self.view_is c.self.invariant in
    step-unsettled v.tells v.holds v.faults k k (λ hash. refl) name (looks-refl v.tells v.holds v.faults k) change answers.NoMemory Wants refl
    (record { not_made = refl; same = refl }) dir (λ is. cc) (λ is. cc)

pub returns-in_default-clause-called : goal.returns-in_default-clause-called
returns-in_default-clause-called g c =
    inl (record { same = λ told d f. refl; failed = refl; called = inl (refl, refl); journal = inl refl })

pub returns-in_default-clause-briefs : goal.returns-in_default-clause-briefs
returns-in_default-clause-briefs g c =
    let v = g.V.Volume in
    let k = c.args.self.now in let name = c.args.name.now in let change = c.args.change in
    others-none answers.NoMemory k.journal.entries k.journal.entries c.args.settled.now.items c.doubt_ready.new.settled.items refl
    c.doubt_ready.ensures.kept

pub returns-in-Err-clause-made : goal.returns-in-Err-clause-made
returns-in-Err-clause-made g c =
    c.in-Err.ensures.made

pub returns-in-Err-clause-called : goal.returns-in-Err-clause-called
returns-in-Err-clause-called g c =
    c.in-Err.ensures.called

pub returns-in-Err-clause-briefs : goal.returns-in-Err-clause-briefs
returns-in-Err-clause-briefs g c =
    let v = g.V.Volume in
    let k = c.args.self.now in let name = c.args.name.now in let change = c.args.change in
    let n = c.decide-decided.new.self in
    let doubt = c.doubted.ensures ∙ ap (λ (x : Kept _). first_in name.hash x.journal.doubts) c.self.view_is in
    let more = ap (λ from. nat_lt from c.front.result) c.front-front.ensures.length ∙ ap (nat_lt (length k.journal.entries)) c.front.ensures.length in
    let tells : Tells k.journal.entries n.journal.entries c.args.settled.now.items c.tell.new.settled.items =
    doubt-tells name.hash k.journal n.journal c.decide-decided.ensures.settles c.args.settled.now.items c.tell.new.settled.items c.in-Ok.brief
    (nat_lt c.front-front.result c.front.result) (c.in-Ok.ensures.brief ∙ ap (option_map brief_of) doubt) more
    (c.tell.ensures ∙ ap (λ l. l ++ told_of c.in-Ok.brief (nat_lt c.front-front.result c.front.result)) c.in-Ok.ensures.kept) in
    others-all c.in-Err.answer c.in-Err.ensures.unmade k.journal.entries n.journal.entries c.args.settled.now.items c.tell.new.settled.items tells

pub returns-in-Ok-decided-clause-made : goal.returns-in-Ok-decided-clause-made
returns-in-Ok-decided-clause-made g c =
    let v = g.V.Volume in
    let k = c.args.self.now in let name = c.args.name.now in let change = c.args.change in
    let n = c.decide-decided.new.self in
    let planned = c.in-Ok-decided.ensures.planned in let plan = c.in-Ok-decided.plan in let q = c.write.new.self in
    step-after v.tells v.holds v.faults k n planned.values name planned.looks change c.write.result q
    (ends-step v.tells v.holds v.faults v.calls v.lists n c.decide-decided.ensures.dir name planned.settled change c.requires.writes
    plan.seen.outline planned.stood
    plan.seen.names.items c.write.result q c.write.ensures.ended)

pub returns-in-Ok-decided-clause-called : goal.returns-in-Ok-decided-clause-called
returns-in-Ok-decided-clause-called g c =
    let v = g.V.Volume in
    let k = c.args.self.now in let name = c.args.name.now in let change = c.args.change in
    let n = c.decide-decided.new.self in
    let planned = c.in-Ok-decided.ensures.planned in let plan = c.in-Ok-decided.plan in let q = c.write.new.self in
    called-behind v.tells v.holds v.faults v.calls v.lists k name change c.write.result q (record {
      listed = n;
      same = planned.looks.same;
      looked = planned.looked;
      ends = subst (λ (names : List FileName). WriteEnds v.tells v.holds v.faults v.calls v.lists n name change names (picked_outline
          planned.looked.seen.picked)
          c.write.result q) (sym planned.names_are)
          (subst (λ (o : Outline). WriteEnds v.tells v.holds v.faults v.calls v.lists n name change plan.seen.names.items o c.write.result q)
          planned.shape c.write.ensures.ended);
    })

pub returns-in-Ok-decided-clause-briefs : goal.returns-in-Ok-decided-clause-briefs
returns-in-Ok-decided-clause-briefs g c =
    let v = g.V.Volume in
    let k = c.args.self.now in let name = c.args.name.now in let change = c.args.change in
    let n = c.decide-decided.new.self in
    let doubt = c.doubted.ensures ∙ ap (λ (x : Kept _). first_in name.hash x.journal.doubts) c.self.view_is in
    let more = ap (λ from. nat_lt from c.front.result) c.front-front.ensures.length ∙ ap (nat_lt (length k.journal.entries)) c.front.ensures.length in
    let tells : Tells k.journal.entries n.journal.entries c.args.settled.now.items c.tell.new.settled.items =
    doubt-tells name.hash k.journal n.journal c.decide-decided.ensures.settles c.args.settled.now.items c.tell.new.settled.items c.in-Ok.brief
    (nat_lt c.front-front.result c.front.result) (c.in-Ok.ensures.brief ∙ ap (option_map brief_of) doubt) more
    (c.tell.ensures ∙ ap (λ l. l ++ told_of c.in-Ok.brief (nat_lt c.front-front.result c.front.result)) c.in-Ok.ensures.kept) in
    let planned = c.in-Ok-decided.ensures.planned in let plan = c.in-Ok-decided.plan in let q = c.write.new.self in
    others-then c.write.result k.journal.entries n.journal.entries q.journal.entries c.args.settled.now.items c.tell.new.settled.items
    c.write.new.settled.items tells
    (write-grown v.tells v.holds v.faults v.calls v.lists n name change plan.seen.names.items plan.seen.outline c.write.result q
    c.write.ensures.ended) c.write.ensures.briefs
