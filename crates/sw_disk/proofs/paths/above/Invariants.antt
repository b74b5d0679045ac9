use Rattle.std.proofs.Common.{◌≡◌, ◌≤◌, length, take}
use Rattle.sw_disk.specs.Paths.{above}
use Rattle.sw_disk.proofs.paths.above.Given as goal

abbrev pub invariant-loop-end : goal.invariant-loop-end
invariant-loop-end l = (l.end ≤ length l.dir) × (above (take l.end l.dir) ≡ above l.dir)

abbrev pub decreases-loop-end : goal.decreases-loop-end
decreases-loop-end l = l.end
