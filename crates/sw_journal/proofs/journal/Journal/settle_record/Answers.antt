use Rattle.std.proofs.Common.{[], ◌∷◌, ◌++◌, ◌+◌, inl, inr, ◌∙◌, ap, sym, subst, List, take, drop, refl}
use Rattle.std.specs.Option.{option_copied}
use Rattle.sw_journal.proofs.Counting.{counted-entered, counted-gone}
use Rattle.sw_journal.proofs.Finding.{settles-record, split-of}
use Rattle.sw_journal.specs.Entries.{IsFirstOf, is_record_of}
use Rattle.sw_object_steps.specs.Journals.{Journal}
use Rattle.sw_object_steps.specs.declared.entry.ObjEntry.{ObjEntry}
use Rattle.sw_journal.proofs.journal.Journal.settle_record.Goals as goal

pub invariant_of-self : goal.invariant_of-self
invariant_of-self c =
    let i = c.self.inside in let at = c.in-Some.at in let e = c.remove-entry.result in
    let first : IsFirstOf (is_record_of c.args.key.now) i.doubts.items at = subst
    (λ (ds : List ObjEntry). IsFirstOf (is_record_of c.args.key.now) ds at) c.deref.ensures.value c.in-Some.ensures.some in
    counted-entered i.entries i.doubts c.remove-entry.new.self i.used i.max_bytes c.self.invariant (take at i.doubts.items) (drop (at + 1) i.doubts.items) e
    (split-of i.doubts.items at e first.within c.remove-entry.ensures.value) c.remove-entry.ensures.by_index.2 c.push_reserved.new.self
    (c.push_reserved.ensures.items ∙ ap (λ (x : ObjEntry). i.entries.items ++ x ∷ []) c.seen_in.ensures) c.push_reserved.ensures.capacity

pub invariant_of-self-else-leaves : goal.invariant_of-self-else-leaves
invariant_of-self-else-leaves c =
    let i = c.self.inside in let at = c.in-Some.at in let e = c.remove-entry.result in
    let first : IsFirstOf (is_record_of c.args.key.now) i.doubts.items at = subst
    (λ (ds : List ObjEntry). IsFirstOf (is_record_of c.args.key.now) ds at) c.deref.ensures.value c.in-Some.ensures.some in
    counted-gone i.entries i.doubts c.remove-entry.new.self i.used i.max_bytes c.self.invariant (take at i.doubts.items) (drop (at + 1) i.doubts.items) e
    (split-of i.doubts.items at e first.within c.remove-entry.ensures.value) c.remove-entry.ensures.by_index.2 c.size_in.result c.size_in.ensures

pub returns-then-leaves : goal.returns-then-leaves
returns-then-leaves c =
    let i = c.self.inside in let at = c.in-Some.at in let e = c.remove-entry.result in
    let j : Journal = record { entries = i.entries.items; doubts = i.doubts.items; max_entries = i.max_entries; max_bytes = i.max_bytes } in
    let after : Journal = record j { entries = c.push_reserved.new.self.items; doubts = c.remove-entry.new.self.items } in
    let first : IsFirstOf (is_record_of c.args.key.now) i.doubts.items at = subst
    (λ (ds : List ObjEntry). IsFirstOf (is_record_of c.args.key.now) ds at) c.deref.ensures.value c.in-Some.ensures.some in
    let more = c.push_reserved.ensures.items ∙ ap (λ (x : ObjEntry). i.entries.items ++ x ∷ []) c.seen_in.ensures in
    rw (sym c.self.view_is)
    (inr (settles-record c.args.key.now (option_copied c.args.stood) j at e after first c.remove-entry.ensures.value
    (inl (c.leaves.ensures.0 c.if-leaves.true, rw (more, c.remove-entry.ensures.by_index.2) refl))))

pub returns-else-leaves : goal.returns-else-leaves
returns-else-leaves c =
    let i = c.self.inside in let at = c.in-Some.at in let e = c.remove-entry.result in
    let j : Journal = record { entries = i.entries.items; doubts = i.doubts.items; max_entries = i.max_entries; max_bytes = i.max_bytes } in
    let after : Journal = record j { doubts = c.remove-entry.new.self.items } in
    let first : IsFirstOf (is_record_of c.args.key.now) i.doubts.items at = subst
    (λ (ds : List ObjEntry). IsFirstOf (is_record_of c.args.key.now) ds at) c.deref.ensures.value c.in-Some.ensures.some in
    rw (sym c.self.view_is)
    (inr (settles-record c.args.key.now (option_copied c.args.stood) j at e after first c.remove-entry.ensures.value
    (inr (λ is. absurd (let yes = c.leaves.ensures.1 is in let no = c.if-leaves.false in cc), rw c.remove-entry.ensures.by_index.2 refl))))
