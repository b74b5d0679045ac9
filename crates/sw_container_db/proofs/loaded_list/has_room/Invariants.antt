-- The rows so far, or the greatest number where they are more.
use Rattle.std.proofs.Common.{◌≡◌, ◌+◌, ◌-◌, ◌^◌, min, take}
use Rattle.sw_container_db.specs.LoadedList.{all_rows}
use Rattle.sw_container_db.proofs.loaded_list.has_room.Given as goal

abbrev pub invariant-loop-loaded : goal.invariant-loop-loaded
invariant-loop-loaded l = l.rows ≡ min (l.more + all_rows (take l.loaded-index l.entries)) (2 ^ 64 - 1)
