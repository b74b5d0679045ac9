use Rattle.std.proofs.Common.{◌≡◌, ◌<◌, List, length, None, refl, sym, subst, arith}
use Rattle.sw_container_locks.specs.Slots.{Lifts}
use Rattle.sw_core.proofs.Containing.{device-open, lifted-there}
use Rattle.sw_core.proofs.Keeping.{lifted-world, open-among, roomy-out}
use Rattle.sw_core.specs.Worlds.{AllNodes, AreLifted, first_of, past_of}
use Rattle.sw_stores.proofs.Pairs.{zip-firsts, zip-seconds}
use Rattle.sw_core.proofs.world.World.lift.Goals as goal

pub lift-requires-clause-are_open : goal.lift-requires-clause-are_open
lift-requires-clause-are_open g c =
    let i = c.self.inside in
    let whole : i.lifted ≡ None = rw (sym c.self.view_is) at c.requires.whole in
    let below : c.args.device < i.devices = rw (sym c.self.view_is) at c.requires.device in
    rw (c.from.ensures, c.stripes-count.ensures.value) (device-open i.devices i.lock_bits i.containers i.lifted c.args.device below c.self.invariant.2 whole)

pub lift_slots-requires-clause-are_open : goal.lift_slots-requires-clause-are_open
lift_slots-requires-clause-are_open g c =
    let i = c.self.inside in
    let w : AllNodes _ _ = record {
      devices = i.devices;
      lock_bits = i.lock_bits;
      power = i.power;
      secrets = i.secrets;
      slots = i.slots.items;
      lines = i.lines.items;
      max_bytes = i.max_bytes;
      asks = i.asks;
      lifted = i.lifted;
      containers = i.containers;
    } in
    let whole : i.lifted ≡ None = rw (sym c.self.view_is) at c.requires.whole in
    let below : c.args.device < i.devices = rw (sym c.self.view_is) at c.requires.device in
    rw (c.from.ensures, c.stripes-count.ensures.value) (open-among w c.self.invariant.0 c.args.device whole below)

pub invariant_of-self-2 : goal.invariant_of-self-2
invariant_of-self-2 g c =
    let i = c.self.inside in
    let w : AllNodes _ _ = record {
      devices = i.devices;
      lock_bits = i.lock_bits;
      power = i.power;
      secrets = i.secrets;
      slots = i.slots.items;
      lines = i.lines.items;
      max_bytes = i.max_bytes;
      asks = i.asks;
      lifted = i.lifted;
      containers = i.containers;
    } in
    let whole : i.lifted ≡ None = rw (sym c.self.view_is) at c.requires.whole in
    let below : c.args.device < i.devices = rw (sym c.self.view_is) at c.requires.device in
    let lifted = rw (c.from.ensures, c.stripes-count.ensures.value) at c.lift_slots.ensures.lifted in
    let up = rw (c.from.ensures, c.stripes-count.ensures.value) at c.in_ok-keepers.ensures.ok in (
      lifted-world w c.self.invariant.0 c.args.device c.lift_slots.new.places.items c.lift_slots.new.volumes.items c.reserve.new.self.items c.lift.new.self
          whole below lifted,
      roomy-out i.slots.items c.lift_slots.new.places.items i.room i.lines c.reserve.new.self i.spare c.in_ok-spare.spare i.lifted c.args.device lifted.count
          (c.in_ok-spare.ensures.items, omega (arith, c.in_ok-spare.ensures.capacity)) (omega (arith, c.in_ok-reserve.ensures.ok))
          c.self.invariant.1,
      lifted-there i.devices i.lock_bits i.containers i.lifted c.args.device c.lift.new.self c.in_ok-keepers.keepers.items below c.self.invariant.2 whole
          up.lifted,
    )

pub returns-clause-ok : goal.returns-clause-ok
returns-clause-ok g c =
    let i = c.self.inside in
    let whole : i.lifted ≡ None = rw (sym c.self.view_is) at c.requires.whole in
    let below : c.args.device < i.devices = rw (sym c.self.view_is) at c.requires.device in
    let lifted = rw (c.from.ensures, c.stripes-count.ensures.value) at c.lift_slots.ensures.lifted in
    let told = rw (c.from.ensures, c.stripes-count.ensures.value) at c.lift_slots.ensures.told in
    let up = rw (c.from.ensures, c.stripes-count.ensures.value) at c.in_ok-keepers.ensures.ok in
    let same : length c.lift_slots.new.volumes.items ≡ length c.in_ok-keepers.keepers.items = omega (arith, lifted.amount, up.lifted.amount) in
    rw (sym c.self.view_is, c.of.ensures) (record {
      world = c.self.invariant.0;
      whole = whole;
      is_device = below;
      lifted = subst (λ (given : List _). AreLifted (first_of i.lock_bits c.args.device) (past_of i.lock_bits c.args.device) i.slots.items
          c.lift_slots.new.places.items given)
          (sym (zip-firsts c.lift_slots.new.volumes.items c.in_ok-keepers.keepers.items same)) lifted;
      told = told;
      containers = subst (λ (given : List _). Lifts g.K.Keeper.tells (first_of i.lock_bits c.args.device) (past_of i.lock_bits c.args.device) i.containers
          c.lift.new.self given)
          (sym (zip-seconds c.lift_slots.new.volumes.items c.in_ok-keepers.keepers.items same)) up;
      rest = rw c.reserve.ensures.items refl;
    })
