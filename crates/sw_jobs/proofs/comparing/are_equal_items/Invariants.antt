use Rattle.std.proofs.Common.{◌≡◌, length, take}
use Rattle.sw_jobs.proofs.comparing.are_equal_items.Given as goal

-- the items so far are equal
abbrev pub invariant-loop-a : goal.invariant-loop-a
invariant-loop-a l = take (length l.yielded) l.one ≡ take (length l.yielded) l.other
