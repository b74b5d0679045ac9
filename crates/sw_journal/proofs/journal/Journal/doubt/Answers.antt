use Rattle.std.proofs.Common.{◌≤◌, ◌+◌, ◌∙◌, ap, sym, subst, refl, arith, length}
use Rattle.sw_journal.proofs.Counting.{counted-doubted}
use Rattle.sw_object_steps.specs.Journals.{Journal, bodies, entry_size}
use Rattle.sw_journal.proofs.journal.Journal.doubt.Goals as goal

pub invariant_of-self-2 : goal.invariant_of-self-2
invariant_of-self-2 c =
    let i = c.self.inside in
    counted-doubted i.entries c.reserve.new.self i.doubts c.push_reserved.new.self i.used i.max_bytes c.size_of.result c.args.entry c.self.invariant
    c.reserve.ensures.items
    (c.push_reserved.ensures.items ∙ rw c.reserve-2.ensures.items refl)
    (let room = c.in_ok-reserve.ensures.ok in let len = c.len.ensures in let same = ap length c.reserve.ensures.items in omega (arith, room, len, same))
    c.size_of.ensures
    (subst (λ (j : Journal). bodies j.entries + bodies j.doubts + entry_size c.args.entry ≤ j.max_bytes) (sym c.self.view_is) c.requires)
