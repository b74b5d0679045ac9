use Rattle.std.proofs.Common.{◌≡◌, ◌≤◌}
use Rattle.std.specs.List.{All, flat_map}
use Rattle.sw_core.specs.Worlds.{SlotTellsOn, volume_in}
use Rattle.sw_core.proofs.world.slots.volumes_in.Given as goal

abbrev pub invariant-loop-place : goal.invariant-loop-place
invariant-loop-place g l = record {
  volumes : l.volumes.items ≡ flat_map volume_in l.yielded;
  told : All (SlotTellsOn g.V.Volume.tells g.V.Volume.holds g.V.Volume.faults) l.yielded;
  room : l.fn.room.cap ≤ l.volumes.cap;
}
