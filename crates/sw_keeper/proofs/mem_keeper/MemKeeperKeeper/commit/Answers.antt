use Rattle.std.proofs.Common.{◌≡◌, ◌∙◌, ap}
use Rattle.sw_outside.specs.Counts.{raised}
use Rattle.sw_keeper.specs.MemState.{MemState}
use Rattle.sw_keeper.proofs.Keeping.{cause_failed, changes-batch, sorted-batch}
use Rattle.std.proofs.Common.{inr, refl}
use Rattle.sw_keeper.proofs.mem_keeper.MemKeeperKeeper.commit.Goals as goal

pub invariant_of-self-in-None : goal.invariant_of-self-in-None
invariant_of-self-in-None c =
    rw c.in_ok-change-in-None.ensures.ok (sorted-batch c.self.inside.shelves.items c.args.place.now c.args.batch.now c.self.invariant)

pub invariant_of-self-in-Some-true : goal.invariant_of-self-in-Some-true
invariant_of-self-in-Some-true c =
    rw c.in_ok-change-in-Some-true.ensures.ok (sorted-batch c.self-in-Some-true.inside.shelves.items c.args.place.now c.args.batch.now
    c.self-in-Some-true.invariant)

pub returns-in_ok-change-in-None-clause-ok : goal.returns-in_ok-change-in-None-clause-ok
returns-in_ok-change-in-None-clause-ok c =
    let shelves : c.self.inside.shelves.items ≡ c.args.self.now.shelves = ap (λ (s : MemState). s.shelves) (c.self.view_is ∙ c.begin.ensures.after) in
    λ _. rw (c.in_ok-change-in-None.ensures.ok, shelves) (changes-batch c.args.self.now.shelves c.args.place.now c.args.batch.now (c.requires.fits refl))

pub returns-in_ok-change-in-Some-true-clause-failed : goal.returns-in_ok-change-in-Some-true-clause-failed
returns-in_ok-change-in-Some-true-clause-failed c =
    let shelves : c.self-in-Some-true.inside.shelves.items ≡ c.args.self.now.shelves =
    ap (λ (s : MemState). s.shelves) (c.self-in-Some-true.view_is ∙ c.begin.ensures.after) in
    let now = ap (λ (s : MemState). s.shelves) c.fail.ensures.after ∙ c.in_ok-change-in-Some-true.ensures.ok in
    rw c.into.ensures (λ _. rw (now, shelves) (inr (changes-batch c.args.self.now.shelves c.args.place.now c.args.batch.now (c.requires.fits refl))))

pub returns-in-Some-false-clause-cause : goal.returns-in-Some-false-clause-cause
returns-in-Some-false-clause-cause c =
    let same : c.begin.new.self.faults ≡ c.args.self.now.faults = ap (λ (s : MemState). s.faults) c.begin.ensures.after in
    cause_failed c.args.self.now.faults c.fail-in-Some-false.new.self.faults c.into-in-Some-false.result c.into-in-Some-false.ensures
    (ap (λ (s : MemState). s.faults) c.fail-in-Some-false.ensures.after ∙ ap raised same) (rw same at c.fail-in-Some-false.ensures.later)
    (rw same at c.fail-in-Some-false.ensures.risen)
