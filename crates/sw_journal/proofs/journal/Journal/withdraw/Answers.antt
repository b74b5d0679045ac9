use Rattle.std.proofs.Common.{◌≤◌, [], sym, subst, ℕ}
use Rattle.std.proofs.lemmas.List.{append-nil}
use Rattle.sw_journal.proofs.Counting.{counted-gone, sized}
use Rattle.sw_journal.proofs.journal.Journal.withdraw.Goals as goal

pub overflow_sub-self : goal.overflow_sub-self
overflow_sub-self c =
    let i = c.self.inside in
    subst (λ (n : ℕ). n ≤ i.used) (sym c.size_in-size.ensures)
    (sized i.entries i.doubts c.pop.new.self i.used i.max_bytes c.self.invariant c.pop.new.self.items [] c.in-Some.entry
    c.in-Some.ensures.items (sym (append-nil c.pop.new.self.items)))

pub invariant_of-self : goal.invariant_of-self
invariant_of-self c =
    let i = c.self.inside in
    counted-gone i.entries i.doubts c.pop.new.self i.used i.max_bytes c.self.invariant c.pop.new.self.items [] c.in-Some.entry
    c.in-Some.ensures.items (sym (append-nil c.pop.new.self.items)) c.size_in-size.result c.size_in-size.ensures
