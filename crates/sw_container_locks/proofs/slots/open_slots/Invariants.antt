use Rattle.std.proofs.Common.{◌≡◌, ◌≤◌}
use Rattle.sw_container_locks.specs.Slots.{opened}
use Rattle.sw_container_locks.proofs.slots.open_slots.Given as goal

abbrev pub invariant-loop-keeper : goal.invariant-loop-keeper
invariant-loop-keeper g l = record { slots : l.slots.items ≡ opened l.yielded; room : l.fn.room.cap ≤ l.slots.cap }
