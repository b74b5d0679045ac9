use Rattle.sw_container_locks.specs.Restarting.{AreRestarted}
use Rattle.sw_container_locks.proofs.restarting.restart_slots.Given as goal

abbrev pub invariant-loop-at : goal.invariant-loop-at
invariant-loop-at g l = AreRestarted g.K.Keeper.tells l.first l.at l.fn.slots.items l.slots.items
