use Rattle.std.proofs.Common.{◌≡◌, take}
use Rattle.sw_control.specs.PendingText.{pending_text}
use Rattle.sw_control.proofs.pending_lines.pending_text.Given as goal

abbrev pub invariant-loop-filed : goal.invariant-loop-filed
invariant-loop-filed l = l.text.items ≡ pending_text l.devices (take l.filed-index l.records)
