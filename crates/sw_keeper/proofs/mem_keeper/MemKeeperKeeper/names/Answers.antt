use Rattle.std.proofs.Common.{◌≡◌, ◌∙◌, ap}
use Rattle.sw_outside.specs.Counts.{raised}
use Rattle.sw_keeper.specs.MemState.{MemState}
use Rattle.sw_keeper.proofs.Keeping.{cause_failed, lists-places}
use Rattle.std.specs.Map.{keys_of}
use Rattle.sw_keeper.proofs.mem_keeper.MemKeeperKeeper.names.Goals as goal

pub returns-then-is_some-clause-cause : goal.returns-then-is_some-clause-cause
returns-then-is_some-clause-cause c =
    let same : c.begin.new.self.faults ≡ c.args.self.now.faults = ap (λ (s : MemState). s.faults) c.begin.ensures.after in
    cause_failed c.args.self.now.faults c.fail.new.self.faults c.into.result c.into.ensures
    (ap (λ (s : MemState). s.faults) c.fail.ensures.after ∙ ap raised same) (rw same at c.fail.ensures.later) (rw same at c.fail.ensures.risen)

pub returns-clause-places : goal.returns-clause-places
returns-clause-places c =
    let shelves : c.self.inside.shelves.items ≡ c.args.self.now.shelves = ap (λ (s : MemState). s.shelves) (c.self.view_is ∙ c.begin.ensures.after) in
    λ _. lists-places c.args.self.now.shelves c.in_ok-places.field-0.items (c.in_ok-places.ensures.ok ∙ ap keys_of (c.deref.ensures.value ∙ shelves))
    (rw shelves at c.self.invariant)
