-- What has been narrowed are the numbers before the index.
use Rattle.std.proofs.Common.{◌≡◌, take}
use Rattle.sw_ring.proofs.narrowing.narrow_row.Given as goal

abbrev pub invariant-loop-device : goal.invariant-loop-device
invariant-loop-device l = l.numbers.items ≡ take l.device-index l.row
