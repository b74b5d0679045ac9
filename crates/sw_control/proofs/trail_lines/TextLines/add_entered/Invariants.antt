-- the text lines of the entries before the index were added
use Rattle.std.proofs.Common.{map, take}
use Rattle.sw_control.specs.Growth.{Adds}
use Rattle.sw_control.specs.TrailText.{entry_told}
use Rattle.sw_control.proofs.trail_lines.TextLines.add_entered.Given as goal

abbrev pub invariant-loop-entry : goal.invariant-loop-entry
invariant-loop-entry l = Adds l.fn.self (map (entry_told l.device) (take l.entry-index l.entered)) l.self
