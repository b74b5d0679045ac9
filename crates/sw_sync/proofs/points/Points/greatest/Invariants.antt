-- The greatest of the devices before this one.
use Rattle.std.proofs.Common.{◌≡◌}
use Rattle.sw_sync.specs.Points.{greatest_of_first}
use Rattle.sw_sync.proofs.points.Points.greatest.Given as goal

abbrev pub invariant-loop-device : goal.invariant-loop-device
invariant-loop-device l = l.greatest ≡ greatest_of_first l.self l.range l.device
