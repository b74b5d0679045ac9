use Rattle.std.proofs.Common.{◌≢◌, ◌≤◌, ◌<◌, ℕ, length, get_or}
use Rattle.sw_disk.proofs.paths.last_name.Given as goal

abbrev pub invariant-loop-start : goal.invariant-loop-start
invariant-loop-start l = (l.start ≤ length l.dir) × ((k : ℕ) → l.start ≤ k → k < length l.dir → get_or l.dir k 0 ≢ 47)

abbrev pub decreases-loop-start : goal.decreases-loop-start
decreases-loop-start l = l.start
