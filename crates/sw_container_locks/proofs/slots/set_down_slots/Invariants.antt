use Rattle.std.proofs.Common.{◌≡◌, ◌+◌, length}
use Rattle.sw_container_locks.specs.Slots.{AreSetDown}
use Rattle.sw_container_locks.proofs.slots.set_down_slots.Given as goal

abbrev pub invariant-loop-keeper : goal.invariant-loop-keeper
invariant-loop-keeper g l = record { place : l.at ≡ l.first + length l.yielded; down : AreSetDown l.first l.yielded l.fn.slots.items l.slots.items }
