use Rattle.std.proofs.Common.{◌≡◌, ℕ, ◌∷◌, [], None, refl, sym, ◌∙◌, ap, subst, inl}
use Rattle.std.specs.Option.{option_to_list}
use Rattle.sw_hashdir.specs.Places.{dir_text}
use Rattle.sw_objdir.proofs.Deciding.{listed-still}
use Rattle.sw_objdir.proofs.RecordTelling.{looks-more}
use Rattle.sw_objdir.proofs.WriteComposing.{ends-alone, ends-settled, ends-unready, fault-unentered}
use Rattle.sw_objdir.proofs.WriteComposing.{others-all}
use Rattle.sw_objdir.proofs.WriteComposing.{others-none, others-then, ready-grown, seen-still}
use Rattle.sw_objdir.proofs.WriteComposing.{unready-same}
use Rattle.sw_objdir.specs.Writing.{WriteEnds}
use Rattle.sw_object_steps.specs.Recorded.{records_for}
use Rattle.sw_object_steps.specs.Steps.{is_entered}
use Rattle.sw_object_steps.specs.declared.answer.Answer.{Answer}
use Rattle.sw_object_steps.specs.declared.answer.Answer.TheVariants as answers
use Rattle.sw_objdir.proofs.obj_dir.ObjDir.write.Goals as goal

pub returns-in_default-clause-ended : goal.returns-in_default-clause-ended
returns-in_default-clause-ended g c =
    inl (inl (record { some = c.in_default.ensures.wants; same = refl }))

pub returns-in_default-clause-briefs : goal.returns-in_default-clause-briefs
returns-in_default-clause-briefs g c =
    let j = c.args.self.now.journal in
    others-none answers.NoMemory j.entries j.entries c.args.settled.now.items c.args.settled.now.items refl refl

pub returns-in_default-filed-clause-ended : goal.returns-in_default-filed-clause-ended
returns-in_default-filed-clause-ended g c =
    let v = g.V.Volume in
    let k = c.args.self.now in let name = c.args.name.now in let change = c.args.change in let o = c.args.plan.now.seen.outline in
    let names = c.args.plan.now.seen.names.items in
    ends-alone v.tells v.holds v.faults v.calls v.lists k name change names o (sym c.in-Ok.ensures.filed ∙ ap option_to_list c.in_default-filed.is)
    c.write_alone.result
    c.write_alone.new.self c.write_alone.ensures.ended

pub write_filed-requires-clause-own : goal.write_filed-requires-clause-own
write_filed-requires-clause-own g c =
    sym c.in-Ok.ensures.filed ∙ ap option_to_list c.in-Some.is

pub write_filed-requires-clause-settled : goal.write_filed-requires-clause-settled
write_filed-requires-clause-settled g c =
    let readies = c.in-Ok-settle_own.ensures.readied in
    readies.settled

pub write_filed-requires-clause-undoubted : goal.write_filed-requires-clause-undoubted
write_filed-requires-clause-undoubted g c =
    let readies = c.in-Ok-settle_own.ensures.readied in
    readies.writes c.args.name.now.hash ∙ c.requires.undoubted

pub write_filed-requires-clause-ours : goal.write_filed-requires-clause-ours
write_filed-requires-clause-ours g c =
    let readies = c.in-Ok-settle_own.ensures.readied in
    rw (readies.looks.same.secrets, readies.looks.same.power) c.requires.ours

pub write_filed-requires-clause-dir : goal.write_filed-requires-clause-dir
write_filed-requires-clause-dir g c =
    let readies = c.in-Ok-settle_own.ensures.readied in
    c.requires.dir ∙ ap (λ (p : ℕ). dir_text p c.args.name.now.hash) (sym readies.looks.same.power)

pub write_filed-requires-clause-names : goal.write_filed-requires-clause-names
write_filed-requires-clause-names g c =
    let v = g.V.Volume in
    let k = c.args.self.now in let name = c.args.name.now in let change = c.args.change in let o = c.args.plan.now.seen.outline in
    let names = c.args.plan.now.seen.names.items in
    let readies = c.in-Ok-settle_own.ensures.readied in
    listed-still v.tells v.holds v.faults v.calls v.lists k c.settle_own.new.self readies.looks c.args.plan.now.dir.items names c.requires.names

pub write_filed-requires-clause-stood : goal.write_filed-requires-clause-stood
write_filed-requires-clause-stood g c =
    let v = g.V.Volume in
    let k = c.args.self.now in let name = c.args.name.now in let change = c.args.change in let o = c.args.plan.now.seen.outline in
    let names = c.args.plan.now.seen.names.items in
    let readies = c.in-Ok-settle_own.ensures.readied in
    seen-still v.tells v.holds v.faults v.calls v.lists k c.settle_own.new.self readies.dir readies.looks name.hash o change None c.requires.stood

pub returns-in-Ok-settle_own-clause-ended : goal.returns-in-Ok-settle_own-clause-ended
returns-in-Ok-settle_own-clause-ended g c =
    let v = g.V.Volume in
    let k = c.args.self.now in let name = c.args.name.now in let change = c.args.change in let o = c.args.plan.now.seen.outline in
    let names = c.args.plan.now.seen.names.items in
    let filed = c.in-Some.filed in let m = c.settle_own.new.self in
    let own : records_for name change ≡ filed ∷ [] = sym c.in-Ok.ensures.filed ∙ ap option_to_list c.in-Some.is in
    let readies = c.in-Ok-settle_own.ensures.readied in
    ends-settled v.tells v.holds v.faults v.calls v.lists k name change names o filed own m readies c.write_filed.result c.write_filed.new.self
    c.write_filed.ensures.ended

pub returns-in-Ok-settle_own-clause-briefs : goal.returns-in-Ok-settle_own-clause-briefs
returns-in-Ok-settle_own-clause-briefs g c =
    let v = g.V.Volume in
    let k = c.args.self.now in let name = c.args.name.now in let change = c.args.change in let o = c.args.plan.now.seen.outline in
    let names = c.args.plan.now.seen.names.items in
    let filed = c.in-Some.filed in let m = c.settle_own.new.self in
    let own : records_for name change ≡ filed ∷ [] = sym c.in-Ok.ensures.filed ∙ ap option_to_list c.in-Some.is in
    let readies = c.in-Ok-settle_own.ensures.readied in
    let n = c.write_filed.new.self in
    others-then c.write_filed.result k.journal.entries m.journal.entries n.journal.entries c.args.settled.now.items c.settle_own.new.settled.items
    c.write_filed.new.settled.items
    (record { grows = looks-more v.tells v.holds v.faults v.calls v.lists k m readies.looks; briefs = c.settle_own.ensures.briefs })
    (ready-grown v.tells v.holds v.faults v.calls v.lists m name change names o c.write_filed.result n c.write_filed.ensures.ended)
    c.write_filed.ensures.briefs

pub returns-in-Err-clause-ended : goal.returns-in-Err-clause-ended
returns-in-Err-clause-ended g c =
    let v = g.V.Volume in
    let k = c.args.self.now in let name = c.args.name.now in let change = c.args.change in let o = c.args.plan.now.seen.outline in
    let names = c.args.plan.now.seen.names.items in
    let filed = c.in-Some.filed in let m = c.settle_own.new.self in
    let own : records_for name change ≡ filed ∷ [] = sym c.in-Ok.ensures.filed ∙ ap option_to_list c.in-Some.is in
    subst (λ (a : Answer). WriteEnds v.tells v.holds v.faults v.calls v.lists k name change names o a m) (sym c.answer_of.ensures)
    (ends-unready v.tells v.holds v.faults v.calls v.lists k name change names o filed own c.in-Err.fault m c.in-Err.ensures.readied)

pub returns-in-Err-clause-briefs : goal.returns-in-Err-clause-briefs
returns-in-Err-clause-briefs g c =
    let v = g.V.Volume in
    let k = c.args.self.now in let name = c.args.name.now in let change = c.args.change in let o = c.args.plan.now.seen.outline in
    let names = c.args.plan.now.seen.names.items in
    let filed = c.in-Some.filed in let m = c.settle_own.new.self in
    let own : records_for name change ≡ filed ∷ [] = sym c.in-Ok.ensures.filed ∙ ap option_to_list c.in-Some.is in
    others-all c.answer_of.result (ap is_entered c.answer_of.ensures ∙ fault-unentered c.in-Err.fault) k.journal.entries m.journal.entries
    c.args.settled.now.items c.settle_own.new.settled.items
    (record {
      grows = unready-same v.tells v.holds v.faults v.calls v.lists k m filed c.in-Err.fault c.in-Err.ensures.readied;
      briefs =
          c.settle_own.ensures.briefs;
    })
