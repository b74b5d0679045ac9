use Rattle.std.proofs.Common.{take}
use Rattle.sw_listing_json.specs.Writing.{AddsEntries}
use Rattle.sw_listing_json.proofs.writing.write_entries.Given as goal

-- the object of each entry before the index is written
abbrev pub invariant-loop-entry : goal.invariant-loop-entry
invariant-loop-entry l = AddsEntries (take l.entry-index l.entries) l.fn.out l.out
