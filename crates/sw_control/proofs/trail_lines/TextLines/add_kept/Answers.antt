use Rattle.std.proofs.lemmas.Result.{on_ok_weaker}
use Rattle.sw_control.proofs.Growing.{line_added}
use Rattle.sw_control.proofs.trail_lines.TextLines.add_kept.Goals as goal

pub returns : goal.returns
returns c = on_ok_weaker c.add_entered.result
    (line_added c.args.self.now c.add_settled.new.self c.add_own.new.self c.add_entered.new.self c.args.devices.now c.args.kept.now c.line-line.result.now
    c.device_name-device.result.now _ _ c.line-line.ensures c.device_name-device.ensures c.settled-settled.ensures c.entered.ensures c.in_ok-add_settled.ensures
    c.in_ok-add_own.ensures)
    c.add_entered.ensures
