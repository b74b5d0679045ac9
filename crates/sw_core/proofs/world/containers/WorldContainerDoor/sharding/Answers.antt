use Rattle.std.proofs.Common.{◌≡◌, ◌<◌, ℕ, [], ◌∷◌, ◌++◌, None, refl, sym, subst, ◌∙◌}
use Rattle.sw_core.proofs.Containing.{open-there, still-there, wants-look, world-look}
use Rattle.sw_core.proofs.Wanting.{reserved}
use Rattle.sw_core.proofs.Wholes.{contained, none-out, roomy}
use Rattle.sw_core.specs.Worlds.{AllNodes, keeper_seen}
use Rattle.sw_container_steps.specs.Reads.{sharding_of}
use Rattle.sw_peer.specs.declared.cont_event.ContEvent.TheVariants.{Sharded}
use Rattle.sw_core.proofs.world.containers.WorldContainerDoor.sharding.Goals as goal

pub returns-then-is_err-clause-read : goal.returns-then-is_err-clause-read
returns-then-is_err-clause-read g c =
    let v = g.V.Volume in
    let k = g.K.Keeper in
    let i = c.self.inside in
    let w : AllNodes _ _ = record {
      devices = i.devices;
      lock_bits = i.lock_bits;
      power = i.power;
      secrets = i.secrets;
      slots = i.slots.items;
      lines = i.lines.items;
      max_bytes = i.max_bytes;
      asks = i.asks;
      lifted = i.lifted;
      containers = i.containers;
    } in
    let lock = rw (sym c.self.view_is) at c.lock-lock.ensures.lock in
    rw (sym c.self.view_is) (wants-look v.tells v.holds v.faults (keeper_seen k.tells k.holds k.faults) w c.args.link c.args.device c.args.place.now
    sharding_of
    (λ got. Sharded c.args.place.now got) c.reserve.new.self.items c.reserve.ensures.items (rw lock at c.may_stand.ensures))

pub push_reserved-requires : goal.push_reserved-requires
push_reserved-requires g c = reserved c.reserve.result _ _ (sym c.is_err.ensures.value ∙ c.if-is_err.false) c.reserve.ensures.ok

pub invariant_of-self : goal.invariant_of-self
invariant_of-self g c =
    let i = c.self.inside in
    let w : AllNodes _ _ = record {
      devices = i.devices;
      lock_bits = i.lock_bits;
      power = i.power;
      secrets = i.secrets;
      slots = i.slots.items;
      lines = i.lines.items;
      max_bytes = i.max_bytes;
      asks = i.asks;
      lifted = i.lifted;
      containers = i.containers;
    } in
    let whole : i.lifted ≡ None = none-out i.lifted c.args.device i.devices (rw (sym c.self.view_is) at c.requires.device) in (
      contained w c.self.invariant.0 c.reserve.new.self.items i.containers,
      roomy i.slots.items i.slots.items i.room i.lines c.reserve.new.self i.spare i.lifted whole refl c.self.invariant.1,
      c.self.invariant.2,
    )

pub invariant_of-self-2 : goal.invariant_of-self-2
invariant_of-self-2 g c =
    let i = c.self.inside in
    let w : AllNodes _ _ = record {
      devices = i.devices;
      lock_bits = i.lock_bits;
      power = i.power;
      secrets = i.secrets;
      slots = i.slots.items;
      lines = i.lines.items;
      max_bytes = i.max_bytes;
      asks = i.asks;
      lifted = i.lifted;
      containers = i.containers;
    } in
    let whole : i.lifted ≡ None = none-out i.lifted c.args.device i.devices (rw (sym c.self.view_is) at c.requires.device) in (
      contained w c.self.invariant.0 c.push_reserved.new.self.items c.sharding-got.new.self,
      roomy i.slots.items i.slots.items i.room i.lines c.push_reserved.new.self i.spare i.lifted whole refl c.self.invariant.1,
      rw c.sharding-got.ensures.rest (still-there i.devices i.lock_bits i.containers i.lifted c.lock-lock.result c.sharding-got.ensures.after
          c.self.invariant.2 whole),
    )

pub returns-clause-read : goal.returns-clause-read
returns-clause-read g c =
    let v = g.V.Volume in
    let k = g.K.Keeper in
    let i = c.self.inside in
    let w : AllNodes _ _ = record {
      devices = i.devices;
      lock_bits = i.lock_bits;
      power = i.power;
      secrets = i.secrets;
      slots = i.slots.items;
      lines = i.lines.items;
      max_bytes = i.max_bytes;
      asks = i.asks;
      lifted = i.lifted;
      containers = i.containers;
    } in
    let lock = rw (sym c.self.view_is) at c.lock-lock.ensures.lock in
    let items : c.push_reserved.new.self.items ≡ w.lines ++ c.sharding-got.result.1 ∷ [] = c.push_reserved.ensures.items ∙ rw c.reserve.ensures.items refl in
    rw (sym c.self.view_is)
    (world-look v.tells v.holds v.faults (keeper_seen k.tells k.holds k.faults) w c.args.link c.args.device c.args.place.now sharding_of
    (λ got. Sharded c.args.place.now got) k.calls c.sharding-got.result.0 c.sharding-got.new.self c.sharding-got.result.1
    c.push_reserved.new.self.items (rw lock at c.sharding-got.ensures) items)

pub may_stand-requires : goal.may_stand-requires
may_stand-requires g c =
    let i = c.self.inside in
    let whole : i.lifted ≡ None = none-out i.lifted c.args.device i.devices (rw (sym c.self.view_is) at c.requires.device) in
    let within = rw (sym c.self.view_is) at c.lock-lock.ensures.within in
    record {
      is_open = open-there i.devices i.lock_bits i.containers i.lifted c.self.invariant.2 whole c.lock-lock.result
          (subst (λ (n : ℕ). c.lock-lock.result < n) (c.self.invariant.0.count ∙ sym c.self.invariant.2.count) within);
    }

pub sharding-got-requires : goal.sharding-got-requires
sharding-got-requires g c =
    let i = c.self.inside in
    let whole : i.lifted ≡ None = none-out i.lifted c.args.device i.devices (rw (sym c.self.view_is) at c.requires.device) in
    let within = rw (sym c.self.view_is) at c.lock-lock.ensures.within in
    record {
      is_open = open-there i.devices i.lock_bits i.containers i.lifted c.self.invariant.2 whole c.lock-lock.result
          (subst (λ (n : ℕ). c.lock-lock.result < n) (c.self.invariant.0.count ∙ sym c.self.invariant.2.count) within);
    }
