use Rattle.std.proofs.Common.{sym, ◌∙◌}
use Rattle.sw_pending.proofs.Marks.{marks_are_once, order_marked}
use Rattle.sw_pending.proofs.filed.Filed.mark.Goals as goal

pub returns-then-is_done-clause-ok : goal.returns-then-is_done-clause-ok
returns-then-is_done-clause-ok c = sym (marks_are_once c.args.self.now c.args.device (sym c.is_done.ensures ∙ c.if-is_done.true))

pub invariant_of-self : goal.invariant_of-self
invariant_of-self c = record {
  queue_right = c.args.self.now.queue_right;
  in_order = order_marked c.args.self.now c.args.device c.in_ok-self.field-0 (rw c.as_slice.ensures at c.in_ok-self.ensures);
}
