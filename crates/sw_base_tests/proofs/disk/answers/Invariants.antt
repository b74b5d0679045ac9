use Rattle.sw_disk.specs.Changes.{run}
use Rattle.sw_disk.specs.Keeping.{IsInOrder}
use Rattle.sw_base_tests.proofs.disk.answers.Given as goal

abbrev pub invariant-loop-set : goal.invariant-loop-set
invariant-loop-set l = IsInOrder (run l.fn.volume.disk.log.changes.items).now → IsInOrder (run l.volume.disk.log.changes.items).now
