use Rattle.sw_container_locks.proofs.Keeping.{same-room, set-down-locks}
use Rattle.sw_container_locks.proofs.cont_locks.ContLocks.set_down.Goals as goal

pub invariant_of-self : goal.invariant_of-self
invariant_of-self g c =
    let old = c.self.inside.slots.items in
    let new = c.set_down_slots.new.slots.items in
    let down = c.set_down_slots.ensures in (
      set-down-locks g.K.Keeper.tells c.args.first c.args.keepers.items old new down c.self.invariant.0,
      same-room old new c.self.inside.room down.count c.self.invariant.1,
    )
