use Rattle.std.proofs.Common.{[], sym, ◌∙◌}
use Rattle.sw_sharded_listing.proofs.Ends.{end-last}
use Rattle.sw_sharded_listing.proofs.parts.end_of.Goals as goal

pub returns-in-Some : goal.returns-in-Some
returns-in-Some c = c.as_slice.ensures ∙ sym (end-last [] c.args.ranges.now c.in-Some.range.now (sym c.in-Some.ensures.value))
