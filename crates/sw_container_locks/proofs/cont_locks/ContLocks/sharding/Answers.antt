use Rattle.std.proofs.Common.{refl, sym, subst}
use Rattle.sw_container_db.specs.ContDirs.{ContKept}
use Rattle.sw_container_locks.proofs.Keeping.{at-open, set-room, stepped-locks, taken-lock}
use Rattle.sw_container_locks.specs.Slots.{IsLock}
use Rattle.sw_container_locks.proofs.cont_locks.ContLocks.sharding.Goals as goal

pub sharding_in-requires : goal.sharding_in-requires
sharding_in-requires g c =
    let all = c.self.inside.slots.items in
    let is_open = rw (sym c.self.view_is) at c.requires.is_open in
    let there = at-open all c.args.lock c.index_mut.result.now c.in-Open.dir is_open c.index_mut.ensures.value c.in-Open.is in
    record { fresh = (c.self.invariant.0 c.args.lock c.in-Open.dir there).fresh }

pub invariant_of-self : goal.invariant_of-self
invariant_of-self g c =
    let tells = g.K.Keeper.tells in
    let all = c.self.inside.slots.items in
    let is_open = rw (sym c.self.view_is) at c.requires.is_open in
    let there = at-open all c.args.lock c.index_mut.result.now c.in-Open.dir is_open c.index_mut.ensures.value c.in-Open.is in
    let step = c.sharding_in.ensures.step in
    let read = c.sharding_in.ensures.step.read in
    let lock = taken-lock tells g.K.Keeper.holds g.K.Keeper.faults c.in-Open.dir c.sharding_in.ensures.left step.same
    read.follows.max_entries read.follows.max_bytes
    (c.self.invariant.0 c.args.lock c.in-Open.dir there) in (
      stepped-locks tells all c.args.lock c.in-Open.dir c.sharding_in.new.dir there
          (subst (λ (x : ContKept _). IsLock tells x) (sym c.sharding_in.ensures.after) lock)
          c.self.invariant.0,
      set-room all c.args.lock _ c.self.inside.room c.self.invariant.1,
    )

pub returns : goal.returns
returns g c =
    let all = c.self.inside.slots.items in
    let is_open = rw (sym c.self.view_is) at c.requires.is_open in
    let there = at-open all c.args.lock c.index_mut.result.now c.in-Open.dir is_open c.index_mut.ensures.value c.in-Open.is in
    rw (sym c.self.view_is) (record {
      before = c.in-Open.dir;
      after = c.sharding_in.new.dir;
      there = there;
      is_lock = c.self.invariant.0 c.args.lock c.in-Open.dir there;
      read = c.sharding_in.ensures;
      rest = refl;
    })
