use Rattle.std.proofs.Common.{sym}
use Rattle.sw_container_locks.proofs.Keeping.{lifted-locks, same-room}
use Rattle.sw_container_locks.proofs.cont_locks.ContLocks.lift.Goals as goal

pub lift_slots-requires-clause-are_open : goal.lift_slots-requires-clause-are_open
lift_slots-requires-clause-are_open g c = rw (sym c.self.view_is) at c.requires.are_open

pub invariant_of-self : goal.invariant_of-self
invariant_of-self g c =
    let old = c.self.inside.slots.items in
    let new = c.lift_slots.new.slots.items in
    let up = c.lift_slots.ensures in
    let are_open = rw (sym c.self.view_is) at c.requires.are_open in (
      lifted-locks g.K.Keeper.tells c.args.first c.args.past old new c.lift_slots.new.keepers.items are_open up c.self.invariant.0,
      same-room old new c.self.inside.room up.count c.self.invariant.1,
    )

pub returns-clause-ok : goal.returns-clause-ok
returns-clause-ok g c =
    let are_open = rw (sym c.self.view_is) at c.requires.are_open in
    rw (sym c.self.view_is) (record { locks = c.self.invariant.0; are_open = are_open; lifted = c.lift_slots.ensures })
