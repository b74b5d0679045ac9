use Rattle.std.proofs.Common.{◌≤◌}
use Rattle.sw_container_locks.specs.Slots.{AreLifted}
use Rattle.sw_container_locks.proofs.slots.lift_slots.Given as goal

abbrev pub invariant-loop-at : goal.invariant-loop-at
invariant-loop-at g l = record { lifted : AreLifted l.first l.at l.fn.slots.items l.slots.items l.keepers.items; room : l.fn.keepers.cap ≤ l.keepers.cap }
