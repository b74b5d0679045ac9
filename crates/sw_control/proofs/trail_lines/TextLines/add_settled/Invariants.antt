-- the text lines of the briefs before the index were added
use Rattle.std.proofs.Common.{map, take}
use Rattle.sw_control.specs.Growth.{Adds}
use Rattle.sw_control.specs.TrailText.{settled_told}
use Rattle.sw_control.proofs.trail_lines.TextLines.add_settled.Given as goal

abbrev pub invariant-loop-brief : goal.invariant-loop-brief
invariant-loop-brief l = Adds l.fn.self (map (settled_told l.device) (take l.brief-index l.settled)) l.self
