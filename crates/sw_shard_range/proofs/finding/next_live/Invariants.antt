-- The rows that were taken are deleted ones.
use Rattle.std.proofs.Common.{◌≡◌, length}
use Rattle.sw_shard_range.specs.Bounds.{names_left}
use Rattle.sw_shard_range.proofs.finding.next_live.Given as goal

abbrev pub invariant-loop-row : goal.invariant-loop-row
invariant-loop-row l = names_left l.left ≡ names_left l.initial.left

abbrev pub decreases-loop-row : goal.decreases-loop-row
decreases-loop-row l = length l.left
