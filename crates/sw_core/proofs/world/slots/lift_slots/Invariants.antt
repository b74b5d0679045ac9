use Rattle.std.proofs.Common.{◌≤◌}
use Rattle.sw_core.proofs.Slots.{AllTellOn}
use Rattle.sw_core.specs.Worlds.{AreLifted}
use Rattle.sw_core.proofs.world.slots.lift_slots.Given as goal

abbrev pub invariant-loop-at : goal.invariant-loop-at
invariant-loop-at g l = record {
  lifted : AreLifted l.first l.at l.fn.places.items l.places.items l.volumes.items;
  told : AllTellOn g.V.Volume.tells g.V.Volume.holds g.V.Volume.faults l.first l.at l.fn.places.items;
  room : l.fn.volumes.cap ≤ l.volumes.cap;
}
