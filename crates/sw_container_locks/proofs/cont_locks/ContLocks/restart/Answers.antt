use Rattle.std.proofs.Common.{sym, subst, ◌≤◌, ℕ}
use Rattle.sw_container_locks.proofs.Anew.{restarted-locks}
use Rattle.sw_container_locks.proofs.cont_locks.ContLocks.restart.Goals as goal

pub invariant_of-self : goal.invariant_of-self
invariant_of-self g c =
    let i = c.self.inside in
    let all = c.restart_slots.ensures in (
      restarted-locks g.K.Keeper.tells c.args.first c.args.past i.slots.items c.restart_slots.new.slots.items all,
      record { none = c.self.invariant.1.none; wide = subst (λ (n : ℕ). n ≤ i.room.cap) (sym all.count) c.self.invariant.1.wide },
    )
