-- What has been moved so far stands behind what was there, and no room was given back.
use Rattle.std.proofs.Common.{◌≡◌, ◌≤◌, ◌++◌}
use Rattle.sw_container_db.proofs.entering.enter.Given as goal

abbrev pub invariant-loop-entry : goal.invariant-loop-entry
invariant-loop-entry l = record {
  entries : l.entries.items ≡ l.fn.entries.items ++ l.yielded;
  fresh : l.fresh.items ≡ l.fn.fresh.items ++ l.yielded;
  room : l.fn.entries.cap ≤ l.entries.cap;
  fresh_room : l.fn.fresh.cap ≤ l.fresh.cap;
}
