-- the text lines so far are those of the lines before the index, and no more than there are bytes
use Rattle.std.proofs.Common.{◌≡◌, ◌≤◌, length, take}
use Rattle.std.specs.List.{flat_map}
use Rattle.sw_control.specs.TrailText.{line_told, numbered}
use Rattle.sw_control.proofs.trail_lines.trail_text.Given as goal

abbrev pub invariant-loop-kept : goal.invariant-loop-kept
invariant-loop-kept l = record {
  text : l.texts.text.items ≡ numbered 0 (flat_map (line_told l.devices) (take l.kept-index l.lines));
  count : l.texts.count ≡ length (flat_map (line_told l.devices) (take l.kept-index l.lines));
  few : l.texts.count ≤ length l.texts.text.items;
}
