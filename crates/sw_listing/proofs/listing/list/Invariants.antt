-- What was given so far is the beginning of the listing, and no more than the limit.
use Rattle.std.proofs.Common.{◌≤◌, ◌-◌, vec_len}
use Rattle.sw_listing.proofs.Walks.{Walk}
use Rattle.sw_listing.proofs.listing.list.Given as goal

abbrev pub invariant-loop-left : goal.invariant-loop-left
invariant-loop-left l = record {
  walk : Walk l.query l.rows.list l.entries.items l.left;
  fits : vec_len l.entries ≤ l.query.limit;
}

abbrev pub decreases-loop-left : goal.decreases-loop-left
decreases-loop-left l = l.query.limit - vec_len l.entries
