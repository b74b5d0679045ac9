-- None of the elements before the index is equal to a later one.
use Rattle.std.proofs.Common.{◌≡◌, bytes_eq, drop}
use Rattle.sw_ring.specs.Faults.{has_repeat}
use Rattle.sw_ring.proofs.row_checks.has_equal_names.Given as goal

abbrev pub invariant-loop-i : goal.invariant-loop-i
invariant-loop-i l = has_repeat bytes_eq (drop l.i l.names) ≡ has_repeat bytes_eq l.names
