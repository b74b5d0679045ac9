use Rattle.std.proofs.Common.{rules, tests, nat_lt}
use Rattle.std.proofs.lemmas.List.Sorted.{answers_always}
use Rattle.sw_pending.proofs.DeviceOrder.{in_order-answer}
use Rattle.sw_pending.proofs.filed.Filed.are_in_order.Goals as goal

pub returns : goal.returns
returns c =
    in_order-answer c.args.devices.now c.is_sorted_by.result
    (c.is_sorted_by.ensures.cases nat_lt (answers_always _ _ _ (λ f a r g called. search (rules, tests))))
