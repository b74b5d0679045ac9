-- How text lines are added to those so far.
use Rattle.std.specs.Prelude.{◌≡◌, ℕ, ◌+◌, ◌≤◌, List, ◌++◌, length}
use Rattle.sw_control.specs.TrailText.{numbered}
use Rattle.sw_control.specs.declared.trail_lines.TextLines.{TextLines}

-- these were added, with the next numbers. No more are counted than there are bytes, so that the count stays in its type
pub record Adds (old : TextLines) (texts : List (List ℕ)) (new : TextLines) : Type 0 where
  pub text : new.text.items ≡ old.text.items ++ numbered old.count texts
  pub count : new.count ≡ old.count + length texts
  pub few : new.count ≤ length new.text.items
