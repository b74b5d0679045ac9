-- This device and the others so far.
use Rattle.std.proofs.Common.{◌≡◌, length, suc, take}
use Rattle.sw_cleave.specs.Creating.{others_of}
use Rattle.sw_cleave.proofs.creating.replicas.Given as goal

abbrev pub invariant-loop-other : goal.invariant-loop-other
invariant-loop-other l = l.count ≡ suc (length (others_of l.device (take l.other-index l.other-items)))
