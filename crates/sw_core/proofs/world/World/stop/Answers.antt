use Rattle.std.proofs.Common.{refl, sym}
use Rattle.sw_core.proofs.Stopped.{gives, same-parts}
use Rattle.sw_core.specs.Worlds.{AllNodes}
use Rattle.sw_core.proofs.world.World.stop.Goals as goal

pub of-requires : goal.of-requires
of-requires g c =
    let i = c.self.inside in
    let w : AllNodes _ _ = record {
      devices = i.devices;
      lock_bits = i.lock_bits;
      power = i.power;
      secrets = i.secrets;
      slots = i.slots.items;
      lines = i.lines.items;
      max_bytes = i.max_bytes;
      asks = i.asks;
      lifted = i.lifted;
      containers = i.containers;
    } in
    rw (c.volumes_in.ensures.volumes, c.stop.ensures.all) (same-parts w c.self.invariant.0 c.self.invariant.2)

pub returns-clause-all : goal.returns-clause-all
returns-clause-all g c = rw (sym c.self.view_is, c.of.ensures, c.volumes_in.ensures.volumes, c.stop.ensures.all) refl

pub returns-clause-gives : goal.returns-clause-gives
returns-clause-gives g c =
    let i = c.self.inside in
    let w : AllNodes _ _ = record {
      devices = i.devices;
      lock_bits = i.lock_bits;
      power = i.power;
      secrets = i.secrets;
      slots = i.slots.items;
      lines = i.lines.items;
      max_bytes = i.max_bytes;
      asks = i.asks;
      lifted = i.lifted;
      containers = i.containers;
    } in
    rw (sym c.self.view_is, c.of.ensures, c.volumes_in.ensures.volumes, c.stop.ensures.all) (gives w c.self.invariant.0 c.self.invariant.2)

pub returns-clause-told : goal.returns-clause-told
returns-clause-told g c = rw (sym c.self.view_is) c.volumes_in.ensures.told

pub returns-clause-containers : goal.returns-clause-containers
returns-clause-containers g c = rw (sym c.self.view_is) c.self.invariant.2

pub returns-clause-locks : goal.returns-clause-locks
returns-clause-locks g c = rw (sym c.self.view_is) c.stop.ensures.locks
