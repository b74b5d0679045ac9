-- The sum of the items before the index, or the greatest number.
use Rattle.std.proofs.Common.{◌≡◌, ◌-◌, ◌^◌, min, take}
use Rattle.std.specs.List.{sum_by}
use Rattle.sw_fields.specs.Items.{user_size}
use Rattle.sw_fields.proofs.items.user_bytes.Given as goal

abbrev pub invariant-loop-item : goal.invariant-loop-item
invariant-loop-item l = l.bytes ≡ min (sum_by user_size (take l.item-index l.items)) (2 ^ 64 - 1)
