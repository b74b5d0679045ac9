use Rattle.std.proofs.Common.{◌≡◌, ◌+◌, length}
use Rattle.sw_core.specs.Worlds.{AreSetDown}
use Rattle.sw_core.proofs.world.slots.open_slots.Given as goal

abbrev pub invariant-loop-volume : goal.invariant-loop-volume
invariant-loop-volume g l = record {
  place : l.at ≡ l.first + length l.yielded;
  down : AreSetDown l.power l.max_bytes l.first l.yielded l.fn.places.items l.places.items;
}
