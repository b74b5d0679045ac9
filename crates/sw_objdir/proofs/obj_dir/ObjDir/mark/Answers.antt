use Rattle.std.proofs.Common.{None, Some, sym, ◌∙◌, subst}
use Rattle.sw_object_steps.specs.declared.answer.Answer.{Answer}
use Rattle.sw_objdir.proofs.RecordAnswers.{done-ends, mark-ends, none-ends}
use Rattle.sw_objdir.proofs.RecordMaking.{unread-called, unread-step}
use Rattle.sw_objdir.proofs.RecordReading.{Mark, step_at}
use Rattle.sw_objdir.proofs.RecordTelling.{ends-grow, looks-more, tells-then}
use Rattle.sw_objdir.specs.Recording.{CalledFor, FindsAs}
use Rattle.sw_objdir.specs.Stepping.{IsStep}
use Rattle.sw_object_steps.specs.declared.entry.ObjEntry.TheVariants.{Marked}
use Rattle.sw_pending.specs.Records.{key_of, marked}
use Rattle.sw_objdir.proofs.obj_dir.ObjDir.mark.Goals as goal

pub returns-in-Ok-None-clause-made : goal.returns-in-Ok-None-clause-made
returns-in-Ok-None-clause-made g c =
    let v = g.V.Volume in
    let k = c.args.self.now in let m = c.find_record.new.self in let name = c.args.name.now in let filed = c.args.filed.now in
    let finds : FindsAs v.tells v.holds v.faults v.calls v.lists k name filed None m = rw c.in-Ok-None.field-0-is at c.in-Ok-None.ensures.found in
    (none-ends v.tells v.holds v.faults v.calls v.lists k name filed (Mark c.args.device) m finds).0

pub returns-in-Ok-None-clause-called : goal.returns-in-Ok-None-clause-called
returns-in-Ok-None-clause-called g c =
    let v = g.V.Volume in
    let k = c.args.self.now in let m = c.find_record.new.self in let name = c.args.name.now in let filed = c.args.filed.now in
    let finds : FindsAs v.tells v.holds v.faults v.calls v.lists k name filed None m = rw c.in-Ok-None.field-0-is at c.in-Ok-None.ensures.found in
    (none-ends v.tells v.holds v.faults v.calls v.lists k name filed (Mark c.args.device) m finds).1

pub returns-in-Err-clause-made : goal.returns-in-Err-clause-made
returns-in-Err-clause-made g c =
    let v = g.V.Volume in
    let k = c.args.self.now in let m = c.find_record.new.self in let name = c.args.name.now in let filed = c.args.filed.now in
    subst (λ (x : Answer). IsStep v.tells v.holds v.faults k name (step_at filed (Mark c.args.device)) x m) (sym c.answer_of.ensures)
    (unread-step v.tells v.holds v.faults v.calls v.lists k name filed (Mark c.args.device) c.in-Err.fault m c.in-Err.ensures.found)

pub returns-in-Err-clause-called : goal.returns-in-Err-clause-called
returns-in-Err-clause-called g c =
    let v = g.V.Volume in
    let k = c.args.self.now in let m = c.find_record.new.self in let name = c.args.name.now in let filed = c.args.filed.now in
    subst (λ (x : Answer). CalledFor v.tells v.holds v.faults v.calls v.lists k name filed (step_at filed (Mark c.args.device)) x m) (sym c.answer_of.ensures)
    (unread-called v.tells v.holds v.faults v.calls v.lists k name filed (Mark c.args.device) c.in-Err.fault m c.in-Err.ensures.found)

pub returns-then-is_done-clause-made : goal.returns-then-is_done-clause-made
returns-then-is_done-clause-made g c =
    let v = g.V.Volume in
    let k = c.args.self.now in let m = c.find_record.new.self in let name = c.args.name.now in let filed = c.args.filed.now in
    let stood = c.in-Ok-Some.stood in
    let finds : FindsAs v.tells v.holds v.faults v.calls v.lists k name filed (Some stood) m = rw c.in-Ok-Some.field-0-is at c.in-Ok-Some.ensures.found in
    (done-ends v.tells v.holds v.faults v.calls v.lists k name filed stood m finds c.args.device (sym c.is_done.ensures ∙ c.if-is_done.true)).0

pub returns-clause-made : goal.returns-clause-made
returns-clause-made g c =
    let v = g.V.Volume in
    let k = c.args.self.now in let m = c.find_record.new.self in let name = c.args.name.now in let filed = c.args.filed.now in
    let stood = c.in-Ok-Some.stood in
    let finds : FindsAs v.tells v.holds v.faults v.calls v.lists k name filed (Some stood) m = rw c.in-Ok-Some.field-0-is at c.in-Ok-Some.ensures.found in
    (mark-ends v.tells v.holds v.faults v.calls v.lists k name filed stood m finds c.args.device (sym c.is_done.ensures ∙ c.if-is_done.false)
    c.put_mark.result c.put_mark.new.self c.put_mark.ensures.ended).0

pub returns-then-is_done-clause-called : goal.returns-then-is_done-clause-called
returns-then-is_done-clause-called g c =
    let v = g.V.Volume in
    let k = c.args.self.now in let m = c.find_record.new.self in let name = c.args.name.now in let filed = c.args.filed.now in
    let stood = c.in-Ok-Some.stood in
    let finds : FindsAs v.tells v.holds v.faults v.calls v.lists k name filed (Some stood) m = rw c.in-Ok-Some.field-0-is at c.in-Ok-Some.ensures.found in
    (done-ends v.tells v.holds v.faults v.calls v.lists k name filed stood m finds c.args.device (sym c.is_done.ensures ∙ c.if-is_done.true)).1

pub returns-clause-called : goal.returns-clause-called
returns-clause-called g c =
    let v = g.V.Volume in
    let k = c.args.self.now in let m = c.find_record.new.self in let name = c.args.name.now in let filed = c.args.filed.now in
    let stood = c.in-Ok-Some.stood in
    let finds : FindsAs v.tells v.holds v.faults v.calls v.lists k name filed (Some stood) m = rw c.in-Ok-Some.field-0-is at c.in-Ok-Some.ensures.found in
    (mark-ends v.tells v.holds v.faults v.calls v.lists k name filed stood m finds c.args.device (sym c.is_done.ensures ∙ c.if-is_done.false)
    c.put_mark.result c.put_mark.new.self c.put_mark.ensures.ended).1

pub returns-clause-briefs : goal.returns-clause-briefs
returns-clause-briefs g c =
    let v = g.V.Volume in
    let k = c.args.self.now in let m = c.find_record.new.self in let n = c.put_mark.new.self in
    let name = c.args.name.now in let filed = c.args.filed.now in let stood = c.in-Ok-Some.stood in
    let finds : FindsAs v.tells v.holds v.faults v.calls v.lists k name filed (Some stood) m = rw c.in-Ok-Some.field-0-is at c.in-Ok-Some.ensures.found in
    (tells-then k.journal.entries m.journal.entries n.journal.entries c.args.settled.now.items c.find_record.new.settled.items c.put_mark.new.settled.items
    (record { grows = looks-more v.tells v.holds v.faults v.calls v.lists k m finds.looks; briefs = c.find_record.ensures.briefs })
    (record {
      grows = ends-grow v.tells v.holds v.faults v.calls v.lists m (key_of stood) (Marked stood.name.hash (marked stood c.args.device) c.args.device)
          c.put_mark.result n c.put_mark.ensures.ended;
      briefs = c.put_mark.ensures.briefs;
    })).briefs
