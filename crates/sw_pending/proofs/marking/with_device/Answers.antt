use Rattle.std.proofs.Common.{◌∙◌}
use Rattle.sw_pending.proofs.DeviceOrder.{inserted}
use Rattle.sw_pending.proofs.marking.with_device.Goals as goal

pub returns : goal.returns
returns c =
    c.from.ensures ∙ rw (c.in_ok-insert.ensures.items, c.in_ok-list.ensures.items, c.place_of.ensures.place) (inserted c.args.device c.args.done.now c.requires)
