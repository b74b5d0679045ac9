-- The ranges before the index are in this state.
use Rattle.std.proofs.Common.{◌≡◌}
use Rattle.sw_shard_range.proofs.States.{first_in_state}
use Rattle.sw_shard_range.proofs.ranges.put_all_in_state.Given as goal

abbrev pub invariant-loop-index : goal.invariant-loop-index
invariant-loop-index l = l.list.items ≡ first_in_state l.state l.index l.initial.list.items
