use Rattle.sw_control.proofs.Growing.{items_added}
use Rattle.sw_control.proofs.trail_lines.TextLines.add_entered.Goals as goal
use Rattle.sw_control.specs.TrailText.{entry_told}

pub loop-entry-preserved : goal.loop-entry-preserved
loop-entry-preserved c = items_added (entry_told c.args.device.now) c.args.self.now c.loop-entry.self c.add_entry.new.self c.args.entered.now
    c.loop-entry.entry-index
    c.entry-item.result c.loop-entry-test.true c.entry-item.is c.loop-entry.invariant c.in_ok-add_entry.ensures
