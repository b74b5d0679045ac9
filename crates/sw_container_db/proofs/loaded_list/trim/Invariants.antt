-- Who stays in the end is among those that are left.
use Rattle.std.proofs.Common.{◌≡◌, ◌≤◌, vec_capacity, vec_len}
use Rattle.sw_container_db.specs.LoadedList.{trimmed}
use Rattle.sw_container_db.proofs.loaded_list.trim.Given as goal

abbrev pub invariant-loop-entries : goal.invariant-loop-entries
invariant-loop-entries l = record {
  stay : trimmed l.more l.entries.items ≡ trimmed l.more l.fn.entries.items;
  len : vec_len l.entries ≤ vec_len l.fn.entries;
  capacity : vec_capacity l.entries ≡ vec_capacity l.fn.entries;
}

abbrev pub decreases-loop-entries : goal.decreases-loop-entries
decreases-loop-entries l = vec_len l.entries
