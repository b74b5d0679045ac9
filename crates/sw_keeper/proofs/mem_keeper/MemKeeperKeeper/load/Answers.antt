use Rattle.std.proofs.Common.{◌≡◌, ◌∙◌, ap}
use Rattle.sw_outside.specs.Counts.{raised}
use Rattle.sw_keeper.specs.MemState.{MemState}
use Rattle.sw_keeper.proofs.Keeping.{cause_failed}
use Rattle.sw_keeper.proofs.mem_keeper.MemKeeperKeeper.load.Goals as goal

pub returns-then-is_some-clause-cause : goal.returns-then-is_some-clause-cause
returns-then-is_some-clause-cause c =
    let same : c.begin.new.self.faults ≡ c.args.self.now.faults = ap (λ (s : MemState). s.faults) c.begin.ensures.after in
    cause_failed c.args.self.now.faults c.fail.new.self.faults c.into.result c.into.ensures
    (ap (λ (s : MemState). s.faults) c.fail.ensures.after ∙ ap raised same) (rw same at c.fail.ensures.later) (rw same at c.fail.ensures.risen)
