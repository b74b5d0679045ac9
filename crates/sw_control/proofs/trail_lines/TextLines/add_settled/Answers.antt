use Rattle.sw_control.proofs.Growing.{items_added}
use Rattle.sw_control.proofs.trail_lines.TextLines.add_settled.Goals as goal
use Rattle.sw_control.specs.TrailText.{settled_told}

pub loop-brief-preserved : goal.loop-brief-preserved
loop-brief-preserved c = items_added (settled_told c.args.device.now) c.args.self.now c.loop-brief.self c.add_write.new.self c.args.settled.now
    c.loop-brief.brief-index
    c.brief-item.result c.loop-brief-test.true c.brief-item.is c.loop-brief.invariant (rw c.brief_kind.ensures at c.in_ok-add_write.ensures)
