use Rattle.std.proofs.Common.{sym}
use Rattle.sw_core.specs.Worlds.{keeper_seen}
use Rattle.sw_core.proofs.Wanting.{lock-stands, own-stands}
use Rattle.sw_core.specs.Worlds.{AllNodes, lock_of}
use Rattle.sw_core.proofs.world.door.WorldObjectDoor.may_stand.Goals as goal

pub returns : goal.returns
returns g c =
    let v = g.V.Volume in let i = c.self.inside in
    let w : AllNodes _ _ = record {
      devices = i.devices;
      lock_bits = i.lock_bits;
      power = i.power;
      secrets = i.secrets;
      slots = i.slots.items;
      lines = i.lines.items;
      max_bytes = i.max_bytes;
      asks = i.asks;
      lifted = i.lifted;
      containers = i.containers;
    } in
    let lock = rw (sym c.self.view_is) at c.lock-place.ensures.lock in
    let within = rw (sym c.self.view_is) at c.lock-place.ensures.within in
    rw (sym c.self.view_is) (own-stands v.tells v.holds v.faults (keeper_seen g.K.Keeper.tells g.K.Keeper.holds g.K.Keeper.faults) w c.args.device
    c.args.hash.now
    (lock-stands v.tells v.holds v.faults i.slots.items (lock_of i.lock_bits i.power c.args.device c.args.hash.now) c.lock-place.result c.index.result.now
    lock within c.index.ensures c.may_stand.ensures))
