use Rattle.std.proofs.Common.{◌^◌, ◌<◌, refl, sym}
use Rattle.sw_core.proofs.Stripes.{lock-within}
use Rattle.sw_shared.proofs.shared_door.SharedDoor.lane_of_stripe.Goals as goal

pub returns-clause-lock : goal.returns-clause-lock
returns-clause-lock g c = rw (sym c.self.view_is, c.from.ensures, c.from-2.ensures, c.stripes.ensures.value) refl

pub returns-clause-within : goal.returns-clause-within
returns-clause-within g c =
    let i = c.self.inside in
    let below : c.args.stripe < 2 ^ i.lock_bits = rw (sym c.self.view_is) at c.requires.stripe in
    let device : c.args.device < i.devices = rw (sym c.self.view_is) at c.requires.device in
    rw (sym c.self.view_is, c.from.ensures, c.from-2.ensures, c.stripes.ensures.value, c.self.invariant.count)
    (lock-within i.lock_bits i.devices c.args.device c.args.stripe device below)
