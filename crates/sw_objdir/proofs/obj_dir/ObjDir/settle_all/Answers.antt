use Rattle.std.proofs.Common.{ℕ, refl, ◌∙◌, subst}
use Rattle.sw_objdir.proofs.Doubts.{briefs-both, briefs-none, looked-both, looked-one, looks-none}
use Rattle.sw_objdir.proofs.Looking.{looks-grows, looks-refl, looks-trans}
use Rattle.sw_objdir.specs.Comparing.{is_in}
use Rattle.sw_objdir.specs.Stepping.{LooksAt}
use Rattle.sw_objdir.proofs.obj_dir.ObjDir.settle_all.Goals as goal

pub loop-init : goal.loop-init
loop-init g c =
    let v = g.V.Volume in let k = c.args.self.now in
    record {
      looks = looks-refl v.tells v.holds v.faults k;
      briefs = briefs-none k.journal.entries k.journal.entries c.args.settled.now.items c.args.settled.now.items refl refl;
      faults = refl;
      only_lists = (0, looks-none v.calls v.lists k);
    }

pub returns-in_err-settle_one-clause-looks : goal.returns-in_err-settle_one-clause-looks
returns-in_err-settle_one-clause-looks g c =
    let v = g.V.Volume in
    looks-trans v.tells v.holds v.faults c.args.self.now c.loop.self c.settle_one.new.self c.loop.invariant.looks
    (subst (λ (p : ℕ). LooksAt v.tells v.holds v.faults (is_in p c.args.scope) c.loop.self c.settle_one.new.self) c.loop.invariant.looks.same.power
    c.settle_one.ensures.looks)

pub returns-in_err-settle_one-clause-briefs : goal.returns-in_err-settle_one-clause-briefs
returns-in_err-settle_one-clause-briefs g c =
    let v = g.V.Volume in
    let one = (looks-grows v.tells v.holds v.faults _ c.args.self.now c.loop.self c.loop.invariant.looks).entries in
    let two = (looks-grows v.tells v.holds v.faults _ c.loop.self c.settle_one.new.self c.settle_one.ensures.looks).entries in
    briefs-both c.args.self.now.journal.entries c.loop.self.journal.entries c.settle_one.new.self.journal.entries
    c.args.settled.now.items c.loop.settled.items c.settle_one.new.settled.items one.0 two.0 one.1 two.1
    c.loop.invariant.briefs c.settle_one.ensures.briefs

pub returns-in_err-settle_one-clause-only_lists : goal.returns-in_err-settle_one-clause-only_lists
returns-in_err-settle_one-clause-only_lists g c =
    let v = g.V.Volume in
    looked-both v.calls v.lists c.args.self.now c.loop.self c.settle_one.new.self c.loop.invariant.only_lists
    (looked-one v.calls v.lists c.loop.self c.args.scope c.settle_one.result c.settle_one.new.self c.settle_one.ensures.one)

pub loop-preserved : goal.loop-preserved
loop-preserved g c =
    let v = g.V.Volume in
    let one = (looks-grows v.tells v.holds v.faults _ c.args.self.now c.loop.self c.loop.invariant.looks).entries in
    let two = (looks-grows v.tells v.holds v.faults _ c.loop.self c.settle_one.new.self c.settle_one.ensures.looks).entries in
    record {
      looks = looks-trans v.tells v.holds v.faults c.args.self.now c.loop.self c.settle_one.new.self c.loop.invariant.looks
          (subst (λ (p : ℕ). LooksAt v.tells v.holds v.faults (is_in p c.args.scope) c.loop.self c.settle_one.new.self) c.loop.invariant.looks.same.power
          c.settle_one.ensures.looks);
      briefs = briefs-both c.args.self.now.journal.entries c.loop.self.journal.entries c.settle_one.new.self.journal.entries
          c.args.settled.now.items c.loop.settled.items c.settle_one.new.settled.items one.0 two.0 one.1 two.1
          c.loop.invariant.briefs c.settle_one.ensures.briefs;
      faults = c.in_ok-settle_one.ensures.cause.kept ∙ c.loop.invariant.faults;
      only_lists = looked-both v.calls v.lists c.args.self.now c.loop.self c.settle_one.new.self c.loop.invariant.only_lists
          (looked-one v.calls v.lists c.loop.self c.args.scope c.settle_one.result c.settle_one.new.self c.settle_one.ensures.one);
    }

pub returns-clause-looks : goal.returns-clause-looks
returns-clause-looks g c =
    let v = g.V.Volume in
    looks-trans v.tells v.holds v.faults c.args.self.now c.loop.self c.settle_one.new.self c.loop.invariant.looks
    (subst (λ (p : ℕ). LooksAt v.tells v.holds v.faults (is_in p c.args.scope) c.loop.self c.settle_one.new.self) c.loop.invariant.looks.same.power
    c.settle_one.ensures.looks)

pub returns-clause-briefs : goal.returns-clause-briefs
returns-clause-briefs g c =
    let v = g.V.Volume in
    let one = (looks-grows v.tells v.holds v.faults _ c.args.self.now c.loop.self c.loop.invariant.looks).entries in
    let two = (looks-grows v.tells v.holds v.faults _ c.loop.self c.settle_one.new.self c.settle_one.ensures.looks).entries in
    briefs-both c.args.self.now.journal.entries c.loop.self.journal.entries c.settle_one.new.self.journal.entries
    c.args.settled.now.items c.loop.settled.items c.settle_one.new.settled.items one.0 two.0 one.1 two.1
    c.loop.invariant.briefs c.settle_one.ensures.briefs
