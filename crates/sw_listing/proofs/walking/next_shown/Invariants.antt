-- The rows that have come aren't listed.
use Rattle.std.proofs.Common.{length}
use Rattle.sw_listing.specs.Walking.{Skips}
use Rattle.sw_listing.proofs.walking.next_shown.Given as goal

abbrev pub invariant-loop-row : goal.invariant-loop-row
invariant-loop-row l = Skips l.query l.initial.left l.left

abbrev pub decreases-loop-row : goal.decreases-loop-row
decreases-loop-row l = length l.left
