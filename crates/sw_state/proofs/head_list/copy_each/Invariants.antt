-- What has been copied are the items before the index.
use Rattle.std.proofs.Common.{◌≡◌, take}
use Rattle.sw_state.proofs.head_list.copy_each.Given as goal

abbrev pub invariant-loop-head : goal.invariant-loop-head
invariant-loop-head l = l.copies.items ≡ take l.head-index l.heads
