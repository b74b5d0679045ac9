-- The least of the devices so far.
use Rattle.std.proofs.Common.{◌≡◌, take}
use Rattle.sw_cleave.specs.Shards.{least_point}
use Rattle.sw_cleave.proofs.shards.least_point.Given as goal

abbrev pub invariant-loop-device : goal.invariant-loop-device
invariant-loop-device l = l.least ≡ least_point l.points l.range (take l.device-index l.devices)
