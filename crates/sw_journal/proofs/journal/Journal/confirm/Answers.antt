use Rattle.std.proofs.Common.{[], ◌∷◌, ◌++◌, sym, ◌∙◌, ap}
use Rattle.sw_object_steps.specs.declared.entry.ObjEntry.{ObjEntry}
use Rattle.std.proofs.lemmas.List.{append-nil}
use Rattle.sw_journal.proofs.Counting.{counted-entered}
use Rattle.sw_journal.proofs.journal.Journal.confirm.Goals as goal

pub invariant_of-self : goal.invariant_of-self
invariant_of-self c =
    let i = c.self.inside in
    counted-entered i.entries i.doubts c.pop.new.self i.used i.max_bytes c.self.invariant c.pop.new.self.items [] c.in-Some.entry
    c.in-Some.ensures.items (sym (append-nil c.pop.new.self.items)) c.push_reserved.new.self
    (c.push_reserved.ensures.items ∙ ap (λ (e : ObjEntry). i.entries.items ++ e ∷ []) c.seen_in.ensures) c.push_reserved.ensures.capacity
