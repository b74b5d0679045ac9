use Rattle.std.proofs.Common.{◌-◌, ◌/◌, ◌^◌, ◌<◌, sym}
use Rattle.sw_core.proofs.Stripes.{lock-is, lock-within, part-below}
use Rattle.sw_shared.proofs.shared_door.SharedDoor.lane_of_part.Goals as goal

pub returns-clause-lock : goal.returns-clause-lock
returns-clause-lock g c =
    let i = c.self.inside in
    let below : c.args.part < 2 ^ i.power = rw (sym c.self.view_is) at c.requires.part in
    rw (sym c.self.view_is, c.from.ensures, c.from-2.ensures, c.stripes.ensures.value)
    (lock-is i.lock_bits i.power c.args.device c.args.part c.self.invariant.fine below)

pub returns-clause-within : goal.returns-clause-within
returns-clause-within g c =
    let i = c.self.inside in
    let below : c.args.part < 2 ^ i.power = rw (sym c.self.view_is) at c.requires.part in
    let device : c.args.device < i.devices = rw (sym c.self.view_is) at c.requires.device in
    rw (sym c.self.view_is, c.from.ensures, c.from-2.ensures, c.stripes.ensures.value, c.self.invariant.count)
    (lock-within i.lock_bits i.devices c.args.device (c.args.part / 2 ^ (i.power - i.lock_bits)) device
    (part-below i.lock_bits i.power c.args.part c.self.invariant.fine below))
