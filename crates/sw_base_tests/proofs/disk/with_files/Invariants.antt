use Rattle.sw_disk.specs.Changes.{run}
use Rattle.sw_disk.specs.Keeping.{IsInOrder}
use Rattle.sw_base_tests.proofs.disk.with_files.Given as goal

abbrev pub invariant-loop-file : goal.invariant-loop-file
invariant-loop-file l = IsInOrder (run l.volume.disk.log.changes.items).now
