use Rattle.std.proofs.Common.{◌≤◌, ◌+◌, [], ◌∷◌, ◌++◌, inr, ◌∙◌, ap, sym, subst, refl, List, ℕ, take, drop, true, false}
use Rattle.sw_journal.proofs.Counting.{counted-entered, counted-gone, sized}
use Rattle.sw_journal.proofs.Finding.{settles-one, split-of}
use Rattle.sw_journal.specs.Entries.{IsFirstOf, is_write_of}
use Rattle.sw_object_steps.specs.Journals.{Journal}
use Rattle.sw_object_steps.specs.declared.entry.ObjEntry.{ObjEntry}
use Rattle.sw_journal.proofs.journal.Journal.settle.Goals as goal

pub overflow_sub-self : goal.overflow_sub-self
overflow_sub-self c =
    let i = c.self.inside in let at = c.in-Some.at in let e = c.remove-entry.result in
    let first : IsFirstOf (is_write_of c.args.hash.now) i.doubts.items at = subst
    (λ (ds : List ObjEntry). IsFirstOf (is_write_of c.args.hash.now) ds at) c.deref.ensures.value c.in-Some.ensures.some in
    subst (λ (n : ℕ). n ≤ i.used) (sym c.size_in.ensures) (sized i.entries i.doubts c.remove-entry.new.self i.used i.max_bytes c.self.invariant
    (take at i.doubts.items) (drop (at + 1) i.doubts.items) e
    (split-of i.doubts.items at e first.within c.remove-entry.ensures.value) (c.remove-entry.ensures.by_index.2))

pub invariant_of-self : goal.invariant_of-self
invariant_of-self c =
    let i = c.self.inside in let at = c.in-Some.at in let e = c.remove-entry.result in
    let first : IsFirstOf (is_write_of c.args.hash.now) i.doubts.items at = subst
    (λ (ds : List ObjEntry). IsFirstOf (is_write_of c.args.hash.now) ds at) c.deref.ensures.value c.in-Some.ensures.some in
    counted-gone i.entries i.doubts c.remove-entry.new.self i.used i.max_bytes c.self.invariant (take at i.doubts.items) (drop (at + 1) i.doubts.items) e
    (split-of i.doubts.items at e first.within c.remove-entry.ensures.value) (c.remove-entry.ensures.by_index.2) c.size_in.result c.size_in.ensures

pub invariant_of-self-else-is_new : goal.invariant_of-self-else-is_new
invariant_of-self-else-is_new c =
    let i = c.self.inside in let at = c.in-Some.at in let e = c.remove-entry.result in
    let first : IsFirstOf (is_write_of c.args.hash.now) i.doubts.items at = subst
    (λ (ds : List ObjEntry). IsFirstOf (is_write_of c.args.hash.now) ds at) c.deref.ensures.value c.in-Some.ensures.some in
    counted-entered i.entries i.doubts c.remove-entry.new.self i.used i.max_bytes c.self.invariant (take at i.doubts.items) (drop (at + 1) i.doubts.items) e
    (split-of i.doubts.items at e first.within c.remove-entry.ensures.value)
    (c.remove-entry.ensures.by_index.2) c.push_reserved.new.self
    (c.push_reserved.ensures.items ∙ ap (λ (x : ObjEntry). i.entries.items ++ x ∷ []) c.seen_in.ensures) c.push_reserved.ensures.capacity

pub returns-then-is_new : goal.returns-then-is_new
returns-then-is_new c =
    let i = c.self.inside in let at = c.in-Some.at in let e = c.remove-entry.result in
    let j : Journal = record { entries = i.entries.items; doubts = i.doubts.items; max_entries = i.max_entries; max_bytes = i.max_bytes } in
    let first : IsFirstOf (is_write_of c.args.hash.now) i.doubts.items at = subst
    (λ (ds : List ObjEntry). IsFirstOf (is_write_of c.args.hash.now) ds at) c.deref.ensures.value c.in-Some.ensures.some in
    rw (sym c.self.view_is)
    (inr (settles-one c.args.hash.now c.args.outline.now j at e i.entries.items c.remove-entry.new.self.items true first c.remove-entry.ensures.value
    (c.remove-entry.ensures.by_index.2)
    (sym c.is_new.ensures ∙ c.if-is_new.true) refl))

pub returns-else-is_new : goal.returns-else-is_new
returns-else-is_new c =
    let i = c.self.inside in let at = c.in-Some.at in let e = c.remove-entry.result in
    let j : Journal = record { entries = i.entries.items; doubts = i.doubts.items; max_entries = i.max_entries; max_bytes = i.max_bytes } in
    let first : IsFirstOf (is_write_of c.args.hash.now) i.doubts.items at = subst
    (λ (ds : List ObjEntry). IsFirstOf (is_write_of c.args.hash.now) ds at) c.deref.ensures.value c.in-Some.ensures.some in
    rw (sym c.self.view_is)
    (inr (settles-one c.args.hash.now c.args.outline.now j at e c.push_reserved.new.self.items c.remove-entry.new.self.items false first
    c.remove-entry.ensures.value (c.remove-entry.ensures.by_index.2)
    (sym c.is_new.ensures ∙ c.if-is_new.false)
    (c.push_reserved.ensures.items ∙ ap (λ (x : ObjEntry). i.entries.items ++ x ∷ []) c.seen_in.ensures)))
