use Rattle.std.proofs.Common.{◌≡◌, take}
use Rattle.sw_listing.specs.Entries.{lines}
use Rattle.sw_listing.proofs.texts.to_text.Given as goal

-- the lines of the entries before the index
abbrev pub invariant-loop-entry : goal.invariant-loop-entry
invariant-loop-entry l = l.bytes.items ≡ lines (take l.entry-index l.entry-items)
