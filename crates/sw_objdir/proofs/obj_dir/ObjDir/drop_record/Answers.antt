use Rattle.std.proofs.Common.{Bool, true, false, None, Some, Ok, Err, sym, subst}
use Rattle.sw_object_steps.specs.declared.answer.Answer.{Answer}
use Rattle.sw_objdir.proofs.RecordAnswers.{drop-ends, failed-ends, none-about, none-ends, stays-ends, wanting-ends}
use Rattle.sw_objdir.proofs.RecordMaking.{unread-called, unread-step}
use Rattle.sw_objdir.proofs.RecordReading.{Drop, step_at}
use Rattle.sw_objdir.proofs.RecordTelling.{Tells, decides-grows, ends-grow, looks-more, tells-then}
use Rattle.sw_objdir.specs.Recording.{CalledFor, Decides, FindsAs}
use Rattle.sw_objdir.specs.Stepping.{IsStep}
use Rattle.sw_object_steps.specs.declared.entry.ObjEntry.TheVariants.{Dropped}
use Rattle.sw_pending.specs.Records.{key_of}
use Rattle.sw_pending.specs.Rules.{are_done}
use Rattle.sw_volume.specs.declared.errors.VolumeError.TheVariants as volumes
use Rattle.sw_objdir.proofs.obj_dir.ObjDir.drop_record.Goals as goal

pub returns-in-Ok-None-clause-made : goal.returns-in-Ok-None-clause-made
returns-in-Ok-None-clause-made g c =
    let v = g.V.Volume in
    let k = c.args.self.now in let m = c.find_record.new.self in let name = c.args.name.now in let filed = c.args.filed.now in
    let finds : FindsAs v.tells v.holds v.faults v.calls v.lists k name filed None m = rw c.in-Ok-None.field-0-is at c.in-Ok-None.ensures.found in
    (none-ends v.tells v.holds v.faults v.calls v.lists k name filed (Drop c.args.all.now) m finds).0

pub returns-in-Ok-None-clause-called : goal.returns-in-Ok-None-clause-called
returns-in-Ok-None-clause-called g c =
    let v = g.V.Volume in
    let k = c.args.self.now in let m = c.find_record.new.self in let name = c.args.name.now in let filed = c.args.filed.now in
    let finds : FindsAs v.tells v.holds v.faults v.calls v.lists k name filed None m = rw c.in-Ok-None.field-0-is at c.in-Ok-None.ensures.found in
    (none-ends v.tells v.holds v.faults v.calls v.lists k name filed (Drop c.args.all.now) m finds).1

pub returns-in-Err-clause-made : goal.returns-in-Err-clause-made
returns-in-Err-clause-made g c =
    let v = g.V.Volume in
    let k = c.args.self.now in let m = c.find_record.new.self in let name = c.args.name.now in let filed = c.args.filed.now in
    subst (λ (x : Answer). IsStep v.tells v.holds v.faults k name (step_at filed (Drop c.args.all.now)) x m) (sym c.answer_of.ensures)
    (unread-step v.tells v.holds v.faults v.calls v.lists k name filed (Drop c.args.all.now) c.in-Err.fault m c.in-Err.ensures.found)

pub returns-in-Err-clause-called : goal.returns-in-Err-clause-called
returns-in-Err-clause-called g c =
    let v = g.V.Volume in
    let k = c.args.self.now in let m = c.find_record.new.self in let name = c.args.name.now in let filed = c.args.filed.now in
    subst (λ (x : Answer). CalledFor v.tells v.holds v.faults v.calls v.lists k name filed (step_at filed (Drop c.args.all.now)) x m) (sym c.answer_of.ensures)
    (unread-called v.tells v.holds v.faults v.calls v.lists k name filed (Drop c.args.all.now) c.in-Err.fault m c.in-Err.ensures.found)

pub take_away-requires : goal.take_away-requires
take_away-requires g c =
    let v = g.V.Volume in
    let k = c.args.self.now in let m = c.find_record.new.self in let name = c.args.name.now in let filed = c.args.filed.now in
    let stood = c.in-Ok-Some.found in
    let finds : FindsAs v.tells v.holds v.faults v.calls v.lists k name filed (Some stood) m = rw c.in-Ok-Some.field-0-is at c.in-Ok-Some.ensures.found in
    let n = c.may_go.new.self in
    let decides : Decides v.tells v.holds v.faults v.calls v.lists (are_done c.args.all.now stood.done) m name stood.time (Ok true) n =
    subst (λ (x : Bool). Decides v.tells v.holds v.faults v.calls v.lists (are_done c.args.all.now stood.done) m name stood.time (Ok x) n)
    c.in-Ok-true.field-0-test c.in-Ok-true.ensures.decided in
    record { settled = none-about v.tells v.holds v.faults v.calls v.lists k name filed stood m finds c.args.all.now n true decides }

pub returns-in-Ok-true-clause-made : goal.returns-in-Ok-true-clause-made
returns-in-Ok-true-clause-made g c =
    let v = g.V.Volume in
    let k = c.args.self.now in let m = c.find_record.new.self in let name = c.args.name.now in let filed = c.args.filed.now in
    let stood = c.in-Ok-Some.found in
    let finds : FindsAs v.tells v.holds v.faults v.calls v.lists k name filed (Some stood) m = rw c.in-Ok-Some.field-0-is at c.in-Ok-Some.ensures.found in
    let n = c.may_go.new.self in
    let decides : Decides v.tells v.holds v.faults v.calls v.lists (are_done c.args.all.now stood.done) m name stood.time (Ok true) n =
    subst (λ (x : Bool). Decides v.tells v.holds v.faults v.calls v.lists (are_done c.args.all.now stood.done) m name stood.time (Ok x) n)
    c.in-Ok-true.field-0-test c.in-Ok-true.ensures.decided in
    (drop-ends v.tells v.holds v.faults v.calls v.lists k name filed stood m finds c.args.all.now n decides
    c.take_away.result c.take_away.new.self c.take_away.ensures.ended).0

pub returns-in-Ok-false-clause-made : goal.returns-in-Ok-false-clause-made
returns-in-Ok-false-clause-made g c =
    let v = g.V.Volume in
    let k = c.args.self.now in let m = c.find_record.new.self in let name = c.args.name.now in let filed = c.args.filed.now in
    let stood = c.in-Ok-Some.found in
    let finds : FindsAs v.tells v.holds v.faults v.calls v.lists k name filed (Some stood) m = rw c.in-Ok-Some.field-0-is at c.in-Ok-Some.ensures.found in
    let n = c.may_go.new.self in
    let decides : Decides v.tells v.holds v.faults v.calls v.lists (are_done c.args.all.now stood.done) m name stood.time (Ok false) n =
    subst (λ (x : Bool). Decides v.tells v.holds v.faults v.calls v.lists (are_done c.args.all.now stood.done) m name stood.time (Ok x) n)
    c.in-Ok-false.field-0-test c.in-Ok-false.ensures.decided in
    (stays-ends v.tells v.holds v.faults v.calls v.lists k name filed stood m finds c.args.all.now n decides).0

pub returns-in-Err-Failed-clause-made : goal.returns-in-Err-Failed-clause-made
returns-in-Err-Failed-clause-made g c =
    let v = g.V.Volume in
    let k = c.args.self.now in let m = c.find_record.new.self in let name = c.args.name.now in let filed = c.args.filed.now in
    let stood = c.in-Ok-Some.found in
    let finds : FindsAs v.tells v.holds v.faults v.calls v.lists k name filed (Some stood) m = rw c.in-Ok-Some.field-0-is at c.in-Ok-Some.ensures.found in
    let n = c.may_go.new.self in
    let decides : Decides v.tells v.holds v.faults v.calls v.lists (are_done c.args.all.now stood.done) m name stood.time (Err volumes.Failed) n =
    rw c.in-Err-Failed.field-0-is at c.in-Err-Failed.ensures.decided in
    (failed-ends v.tells v.holds v.faults v.calls v.lists k name filed stood m finds c.args.all.now n decides).0

pub returns-clause-made : goal.returns-clause-made
returns-clause-made g c =
    let v = g.V.Volume in
    let k = c.args.self.now in let m = c.find_record.new.self in let name = c.args.name.now in let filed = c.args.filed.now in
    let stood = c.in-Ok-Some.found in
    let finds : FindsAs v.tells v.holds v.faults v.calls v.lists k name filed (Some stood) m = rw c.in-Ok-Some.field-0-is at c.in-Ok-Some.ensures.found in
    let n = c.may_go.new.self in
    let decides : Decides v.tells v.holds v.faults v.calls v.lists (are_done c.args.all.now stood.done) m name stood.time (Err volumes.NoMemory) n =
    rw c.in-Err-NoMemory.field-0-is at c.in-Err-NoMemory.ensures.decided in
    (wanting-ends v.tells v.holds v.faults v.calls v.lists k name filed stood m finds c.args.all.now n decides).0

pub returns-in-Ok-true-clause-called : goal.returns-in-Ok-true-clause-called
returns-in-Ok-true-clause-called g c =
    let v = g.V.Volume in
    let k = c.args.self.now in let m = c.find_record.new.self in let name = c.args.name.now in let filed = c.args.filed.now in
    let stood = c.in-Ok-Some.found in
    let finds : FindsAs v.tells v.holds v.faults v.calls v.lists k name filed (Some stood) m = rw c.in-Ok-Some.field-0-is at c.in-Ok-Some.ensures.found in
    let n = c.may_go.new.self in
    let decides : Decides v.tells v.holds v.faults v.calls v.lists (are_done c.args.all.now stood.done) m name stood.time (Ok true) n =
    subst (λ (x : Bool). Decides v.tells v.holds v.faults v.calls v.lists (are_done c.args.all.now stood.done) m name stood.time (Ok x) n)
    c.in-Ok-true.field-0-test c.in-Ok-true.ensures.decided in
    (drop-ends v.tells v.holds v.faults v.calls v.lists k name filed stood m finds c.args.all.now n decides
    c.take_away.result c.take_away.new.self c.take_away.ensures.ended).1

pub returns-in-Ok-false-clause-called : goal.returns-in-Ok-false-clause-called
returns-in-Ok-false-clause-called g c =
    let v = g.V.Volume in
    let k = c.args.self.now in let m = c.find_record.new.self in let name = c.args.name.now in let filed = c.args.filed.now in
    let stood = c.in-Ok-Some.found in
    let finds : FindsAs v.tells v.holds v.faults v.calls v.lists k name filed (Some stood) m = rw c.in-Ok-Some.field-0-is at c.in-Ok-Some.ensures.found in
    let n = c.may_go.new.self in
    let decides : Decides v.tells v.holds v.faults v.calls v.lists (are_done c.args.all.now stood.done) m name stood.time (Ok false) n =
    subst (λ (x : Bool). Decides v.tells v.holds v.faults v.calls v.lists (are_done c.args.all.now stood.done) m name stood.time (Ok x) n)
    c.in-Ok-false.field-0-test c.in-Ok-false.ensures.decided in
    (stays-ends v.tells v.holds v.faults v.calls v.lists k name filed stood m finds c.args.all.now n decides).1

pub returns-in-Err-Failed-clause-called : goal.returns-in-Err-Failed-clause-called
returns-in-Err-Failed-clause-called g c =
    let v = g.V.Volume in
    let k = c.args.self.now in let m = c.find_record.new.self in let name = c.args.name.now in let filed = c.args.filed.now in
    let stood = c.in-Ok-Some.found in
    let finds : FindsAs v.tells v.holds v.faults v.calls v.lists k name filed (Some stood) m = rw c.in-Ok-Some.field-0-is at c.in-Ok-Some.ensures.found in
    let n = c.may_go.new.self in
    let decides : Decides v.tells v.holds v.faults v.calls v.lists (are_done c.args.all.now stood.done) m name stood.time (Err volumes.Failed) n =
    rw c.in-Err-Failed.field-0-is at c.in-Err-Failed.ensures.decided in
    (failed-ends v.tells v.holds v.faults v.calls v.lists k name filed stood m finds c.args.all.now n decides).1

pub returns-clause-called : goal.returns-clause-called
returns-clause-called g c =
    let v = g.V.Volume in
    let k = c.args.self.now in let m = c.find_record.new.self in let name = c.args.name.now in let filed = c.args.filed.now in
    let stood = c.in-Ok-Some.found in
    let finds : FindsAs v.tells v.holds v.faults v.calls v.lists k name filed (Some stood) m = rw c.in-Ok-Some.field-0-is at c.in-Ok-Some.ensures.found in
    let n = c.may_go.new.self in
    let decides : Decides v.tells v.holds v.faults v.calls v.lists (are_done c.args.all.now stood.done) m name stood.time (Err volumes.NoMemory) n =
    rw c.in-Err-NoMemory.field-0-is at c.in-Err-NoMemory.ensures.decided in
    (wanting-ends v.tells v.holds v.faults v.calls v.lists k name filed stood m finds c.args.all.now n decides).1

pub returns-in-Ok-true-clause-briefs : goal.returns-in-Ok-true-clause-briefs
returns-in-Ok-true-clause-briefs g c =
    let v = g.V.Volume in
    let k = c.args.self.now in let m = c.find_record.new.self in let n = c.may_go.new.self in
    let name = c.args.name.now in let filed = c.args.filed.now in let stood = c.in-Ok-Some.found in
    let finds : FindsAs v.tells v.holds v.faults v.calls v.lists k name filed (Some stood) m = rw c.in-Ok-Some.field-0-is at c.in-Ok-Some.ensures.found in
    let first : Tells k.journal.entries n.journal.entries c.args.settled.now.items c.may_go.new.settled.items =
    tells-then k.journal.entries m.journal.entries n.journal.entries c.args.settled.now.items c.find_record.new.settled.items c.may_go.new.settled.items
    (record { grows = looks-more v.tells v.holds v.faults v.calls v.lists k m finds.looks; briefs = c.find_record.ensures.briefs })
    (record {
      grows = decides-grows v.tells v.holds v.faults v.calls v.lists m (are_done c.args.all.now stood.done) name stood.time c.may_go.result n
          c.may_go.ensures.decided;
      briefs = c.may_go.ensures.briefs;
    }) in
    let end = c.take_away.new.self in
    (tells-then k.journal.entries n.journal.entries end.journal.entries c.args.settled.now.items c.may_go.new.settled.items c.take_away.new.settled.items
    first
    (record {
      grows = ends-grow v.tells v.holds v.faults v.calls v.lists n (key_of stood) (Dropped stood.name.hash stood) c.take_away.result end
          c.take_away.ensures.ended;
      briefs = c.take_away.ensures.briefs;
    })).briefs

pub returns-in-Ok-false-clause-briefs : goal.returns-in-Ok-false-clause-briefs
returns-in-Ok-false-clause-briefs g c =
    let v = g.V.Volume in
    let k = c.args.self.now in let m = c.find_record.new.self in let n = c.may_go.new.self in
    let name = c.args.name.now in let filed = c.args.filed.now in let stood = c.in-Ok-Some.found in
    let finds : FindsAs v.tells v.holds v.faults v.calls v.lists k name filed (Some stood) m = rw c.in-Ok-Some.field-0-is at c.in-Ok-Some.ensures.found in
    let first : Tells k.journal.entries n.journal.entries c.args.settled.now.items c.may_go.new.settled.items =
    tells-then k.journal.entries m.journal.entries n.journal.entries c.args.settled.now.items c.find_record.new.settled.items c.may_go.new.settled.items
    (record { grows = looks-more v.tells v.holds v.faults v.calls v.lists k m finds.looks; briefs = c.find_record.ensures.briefs })
    (record {
      grows = decides-grows v.tells v.holds v.faults v.calls v.lists m (are_done c.args.all.now stood.done) name stood.time c.may_go.result n
          c.may_go.ensures.decided;
      briefs = c.may_go.ensures.briefs;
    }) in
    first.briefs

pub returns-in-Err-Failed-clause-briefs : goal.returns-in-Err-Failed-clause-briefs
returns-in-Err-Failed-clause-briefs g c =
    let v = g.V.Volume in
    let k = c.args.self.now in let m = c.find_record.new.self in let n = c.may_go.new.self in
    let name = c.args.name.now in let filed = c.args.filed.now in let stood = c.in-Ok-Some.found in
    let finds : FindsAs v.tells v.holds v.faults v.calls v.lists k name filed (Some stood) m = rw c.in-Ok-Some.field-0-is at c.in-Ok-Some.ensures.found in
    let first : Tells k.journal.entries n.journal.entries c.args.settled.now.items c.may_go.new.settled.items =
    tells-then k.journal.entries m.journal.entries n.journal.entries c.args.settled.now.items c.find_record.new.settled.items c.may_go.new.settled.items
    (record { grows = looks-more v.tells v.holds v.faults v.calls v.lists k m finds.looks; briefs = c.find_record.ensures.briefs })
    (record {
      grows = decides-grows v.tells v.holds v.faults v.calls v.lists m (are_done c.args.all.now stood.done) name stood.time c.may_go.result n
          c.may_go.ensures.decided;
      briefs = c.may_go.ensures.briefs;
    }) in
    first.briefs

pub returns-clause-briefs : goal.returns-clause-briefs
returns-clause-briefs g c =
    let v = g.V.Volume in
    let k = c.args.self.now in let m = c.find_record.new.self in let n = c.may_go.new.self in
    let name = c.args.name.now in let filed = c.args.filed.now in let stood = c.in-Ok-Some.found in
    let finds : FindsAs v.tells v.holds v.faults v.calls v.lists k name filed (Some stood) m = rw c.in-Ok-Some.field-0-is at c.in-Ok-Some.ensures.found in
    let first : Tells k.journal.entries n.journal.entries c.args.settled.now.items c.may_go.new.settled.items =
    tells-then k.journal.entries m.journal.entries n.journal.entries c.args.settled.now.items c.find_record.new.settled.items c.may_go.new.settled.items
    (record { grows = looks-more v.tells v.holds v.faults v.calls v.lists k m finds.looks; briefs = c.find_record.ensures.briefs })
    (record {
      grows = decides-grows v.tells v.holds v.faults v.calls v.lists m (are_done c.args.all.now stood.done) name stood.time c.may_go.result n
          c.may_go.ensures.decided;
      briefs = c.may_go.ensures.briefs;
    }) in
    first.briefs
