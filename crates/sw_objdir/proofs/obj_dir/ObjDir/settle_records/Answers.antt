use Rattle.std.proofs.Common.{Bool, Ok, refl, ◌∙◌, subst}
use Rattle.sw_objdir.proofs.Doubts.{briefs-both, briefs-none}
use Rattle.sw_objdir.proofs.FilingSettling.{all-stopped, has-more, has-none, has-stopped}
use Rattle.sw_objdir.proofs.Looking.{looks-grows, looks-refl, looks-trans}
use Rattle.sw_objdir.specs.Filings.{SettlesOneFiling}
use Rattle.sw_objdir.proofs.obj_dir.ObjDir.settle_records.Goals as goal

pub loop-init : goal.loop-init
loop-init g c =
    let v = g.V.Volume in let k = c.args.self.now in
    record {
      looks = looks-refl v.tells v.holds v.faults k;
      briefs = briefs-none k.journal.entries k.journal.entries c.args.settled.now.items c.args.settled.now.items refl refl;
      writes = λ hash. refl;
      settled = has-none v.tells v.holds v.faults v.calls v.lists k;
    }

pub returns-in_err-settle_record-clause-looks : goal.returns-in_err-settle_record-clause-looks
returns-in_err-settle_record-clause-looks g c =
    let v = g.V.Volume in
    looks-trans v.tells v.holds v.faults c.args.self.now c.loop.self c.settle_record.new.self c.loop.invariant.looks c.settle_record.ensures.looks

pub returns-in_err-settle_record-clause-briefs : goal.returns-in_err-settle_record-clause-briefs
returns-in_err-settle_record-clause-briefs g c =
    let v = g.V.Volume in
    let one = (looks-grows v.tells v.holds v.faults _ c.args.self.now c.loop.self c.loop.invariant.looks).entries in
    let two = (looks-grows v.tells v.holds v.faults _ c.loop.self c.settle_record.new.self c.settle_record.ensures.looks).entries in
    briefs-both c.args.self.now.journal.entries c.loop.self.journal.entries c.settle_record.new.self.journal.entries
    c.args.settled.now.items c.loop.settled.items c.settle_record.new.settled.items one.0 two.0 one.1 two.1
    c.loop.invariant.briefs c.settle_record.ensures.briefs

pub returns-in_err-settle_record-clause-all : goal.returns-in_err-settle_record-clause-all
returns-in_err-settle_record-clause-all g c =
    let v = g.V.Volume in let k = c.args.self.now in let n = c.settle_record.new.self in
    all-stopped v.tells v.holds v.faults v.calls v.lists k n c.from_residual.result c.in_err-settle_record.field-0.0 c.from_residual.ensures.1
    (has-stopped v.tells v.holds v.faults v.calls v.lists k c.loop.self n c.loop.invariant.settled c.loop.invariant.looks
    c.in_err-settle_record.field-0.0 c.in_err-settle_record.ensures.one)

pub loop-preserved : goal.loop-preserved
loop-preserved g c =
    let v = g.V.Volume in let k = c.args.self.now in let n = c.settle_record.new.self in
    let one = (looks-grows v.tells v.holds v.faults _ c.args.self.now c.loop.self c.loop.invariant.looks).entries in
    let two = (looks-grows v.tells v.holds v.faults _ c.loop.self c.settle_record.new.self c.settle_record.ensures.looks).entries in
    record {
      looks = looks-trans v.tells v.holds v.faults c.args.self.now c.loop.self c.settle_record.new.self c.loop.invariant.looks
          c.settle_record.ensures.looks;
      briefs = briefs-both c.args.self.now.journal.entries c.loop.self.journal.entries c.settle_record.new.self.journal.entries
          c.args.settled.now.items c.loop.settled.items c.settle_record.new.settled.items one.0 two.0 one.1 two.1
          c.loop.invariant.briefs c.settle_record.ensures.briefs;
      writes = λ hash. c.settle_record.ensures.writes hash ∙ c.loop.invariant.writes hash;
      settled = has-more v.tells v.holds v.faults v.calls v.lists k c.loop.self n c.loop.invariant.settled
          (subst (λ (b : Bool). SettlesOneFiling v.tells v.holds v.faults v.calls v.lists c.loop.self (Ok b) n) c.if-branch.true
          c.in_ok-settle_record.ensures.one);
    }

pub returns-clause-briefs : goal.returns-clause-briefs
returns-clause-briefs g c =
    let v = g.V.Volume in
    let one = (looks-grows v.tells v.holds v.faults _ c.args.self.now c.loop.self c.loop.invariant.looks).entries in
    let two = (looks-grows v.tells v.holds v.faults _ c.loop.self c.settle_record.new.self c.settle_record.ensures.looks).entries in
    briefs-both c.args.self.now.journal.entries c.loop.self.journal.entries c.settle_record.new.self.journal.entries
    c.args.settled.now.items c.loop.settled.items c.settle_record.new.settled.items one.0 two.0 one.1 two.1
    c.loop.invariant.briefs c.settle_record.ensures.briefs
