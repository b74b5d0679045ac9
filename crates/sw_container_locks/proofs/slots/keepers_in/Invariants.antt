use Rattle.std.proofs.Common.{◌≡◌, ◌≤◌}
use Rattle.sw_container_locks.specs.Slots.{keepers_of}
use Rattle.sw_container_locks.proofs.slots.keepers_in.Given as goal

abbrev pub invariant-loop-slot : goal.invariant-loop-slot
invariant-loop-slot g l = record { keepers : l.keepers.items ≡ keepers_of l.yielded; room : l.fn.room.cap ≤ l.keepers.cap }
