-- What is still to be tested follows the last name.
use Rattle.std.proofs.Common.{◌≡◌, drop, None}
use Rattle.std.specs.Option.{option_copied}
use Rattle.sw_state.proofs.HeadOrder.{follow}
use Rattle.sw_state.proofs.head_list.in_order.Given as goal

abbrev pub invariant-loop-head : goal.invariant-loop-head
invariant-loop-head l = follow None l.heads ≡ follow (option_copied l.last) (drop l.head-index l.heads)
