-- What has been copied are the items before the index.
use Rattle.std.proofs.Common.{◌≡◌, take}
use Rattle.sw_outside.proofs.sequence.copy_each.Given as goal

abbrev pub invariant-loop-item : goal.invariant-loop-item
invariant-loop-item g l = l.copies.items ≡ take l.item-index l.list
