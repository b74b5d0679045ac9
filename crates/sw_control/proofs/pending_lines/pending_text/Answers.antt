use Rattle.std.proofs.Common.{ap}
use Rattle.sw_control.specs.PendingText.{record_line}
use Rattle.sw_control.proofs.Growing.{flat_map-more}
use Rattle.sw_control.proofs.pending_lines.pending_text.Goals as goal

pub loop-filed-preserved : goal.loop-filed-preserved
loop-filed-preserved c =
    let more = flat_map-more (record_line c.args.devices.now) c.args.records.now c.loop-filed.filed-index c.filed-item.result c.loop-filed-test.true in
    let here = ap (record_line c.args.devices.now) c.filed-item.is in
    cc (more, here, c.in_ok-add_record.ensures, c.loop-filed.invariant)
