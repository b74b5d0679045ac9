use Rattle.sw_control.proofs.Growing.{lines_added}
use Rattle.sw_control.proofs.trail_lines.trail_text.Goals as goal

pub loop-kept-preserved : goal.loop-kept-preserved
loop-kept-preserved c =
    let more = lines_added c.loop-kept.texts c.add_kept.new.self c.args.devices.now c.args.lines.now c.loop-kept.kept-index c.kept-item.result
    c.loop-kept-test.true c.loop-kept.invariant.text c.loop-kept.invariant.count (rw c.kept-item.is at c.in_ok-add_kept.ensures) in
    record { text = more.0; count = more.1; few = c.in_ok-add_kept.ensures.few }
