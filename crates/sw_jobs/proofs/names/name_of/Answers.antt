use Rattle.std.proofs.Common.{ap, Err}
use Rattle.sw_jobs.proofs.GoodNames.{names-good}
use Rattle.sw_jobs.proofs.names.name_of.Goals as goal

pub unreachable-requires : goal.unreachable-requires
unreachable-requires c =
    let good = names-good c.args.container c.args.object c.requires.container c.requires.object in
    let bad = (c.in-Err-Bad.ensures.bad c.in-Err-Bad.field-0-0).0 (ap Err c.in-Err-Bad.field-0-is) in
    let object = c.object_text-object.ensures in
    cc
