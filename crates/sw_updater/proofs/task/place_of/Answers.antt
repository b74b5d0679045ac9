use Rattle.std.proofs.Common.{ap, Err}
use Rattle.sw_updater.proofs.Naming.{container-good}
use Rattle.sw_updater.proofs.task.place_of.Goals as goal

pub unreachable-requires : goal.unreachable-requires
unreachable-requires c =
    let name = c.args.filed.now.name in
    let good = container-good name.account name.container name.object c.requires.good.name.good in
    let bad = (c.in-Err-Bad.ensures.bad c.in-Err-Bad.field-0-0).0 (ap Err c.in-Err-Bad.field-0-is) in
    let account = c.as_slice.ensures in
    let container = c.as_slice-2.ensures in
    cc
