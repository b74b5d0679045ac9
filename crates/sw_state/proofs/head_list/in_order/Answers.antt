use Rattle.std.specs.Option.{option_copied}
use Rattle.sw_state.proofs.HeadOrder.{all_passed, bad_name, bad_order}
use Rattle.sw_state.proofs.head_list.in_order.Goals as goal

pub returns-then-not-is_name : goal.returns-then-not-is_name
returns-then-not-is_name c =
    let bad = rw c.as_slice-name.ensures at c.if-not-is_name.ensures in
    bad_name c.args.heads.now (option_copied c.loop-head.last) c.loop-head.head-index c.head-item.result c.loop-head-test.true c.head-item.is
    c.loop-head.invariant bad

pub returns-then-not-is_after : goal.returns-then-not-is_after
returns-then-not-is_after c =
    let bad = rw c.as_slice-name.ensures at c.if-not-is_after.ensures in
    bad_order c.args.heads.now (option_copied c.loop-head.last) c.loop-head.head-index c.head-item.result c.loop-head-test.true c.head-item.is
    c.loop-head.invariant bad

pub returns : goal.returns
returns c =
    all_passed c.args.heads.now (option_copied c.loop-head.last) c.loop-head.head-index c.loop-head-test.false c.loop-head.invariant
