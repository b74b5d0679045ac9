use Rattle.std.proofs.Common.{◌≡◌, ◌-◌, [], ◌∷◌, ◌++◌, length, refl, ap, sym, ◌∙◌, arith}
use Rattle.std.proofs.lemmas.List.{same_from_push}
use Rattle.sw_object_steps.specs.Journals.{Journal}
use Rattle.sw_object_steps.specs.Recorded.{filed_entries}
use Rattle.sw_object_steps.specs.declared.entry.ObjEntry.{ObjEntry}
use Rattle.sw_object_steps.specs.declared.entry.ObjEntry.TheVariants.{Wrote}
use Rattle.sw_journal.proofs.Counting.{before-filed, counted-filed, wrote-same}
use Rattle.sw_journal.proofs.journal.Journal.confirm_filed.Goals as goal

pub invariant_of-self : goal.invariant_of-self
invariant_of-self c =
    let i = c.self.inside in let w = c.in-Some-Wrote in let before = c.requires.entries.1 in let hash = c.requires.entries.0 in
    let filed : i.entries.items ≡ before ++ filed_entries hash c.args.records = ap (λ (j : Journal). j.entries) c.self.view_is ∙ c.requires.entries.2 in
    let front = before-filed i.entries.items before hash c.args.records (c.len.result - length c.as_slice.result.now) filed
    (rw (c.len.ensures, c.as_slice.ensures) (omega (arith, i.entries.ok.0))) in
    counted-filed i.entries i.doubts c.pop.new.self c.push_reserved.new.self i.used i.max_bytes before hash w.name w.write w.field-0-2 c.args.records
    c.self.invariant filed (w.ensures.items ∙ ap (λ (e : ObjEntry). c.pop.new.self.items ++ e ∷ []) w.field-0-is)
    (c.push_reserved.ensures.items ∙ rw (c.truncate.ensures.items, front, c.seen_in.ensures) refl)
    (c.push_reserved.ensures.capacity ∙ c.truncate.ensures.capacity)

pub returns-in-Some-Wrote : goal.returns-in-Some-Wrote
returns-in-Some-Wrote c hash before doubts name write entered doubted =
    let i = c.self.inside in let w = c.in-Some-Wrote in
    let filed : i.entries.items ≡ before ++ filed_entries hash c.args.records = ap (λ (j : Journal). j.entries) c.self.view_is ∙ entered in
    let front = before-filed i.entries.items before hash c.args.records (c.len.result - length c.as_slice.result.now) filed
    (rw (c.len.ensures, c.as_slice.ensures) (omega (arith, i.entries.ok.0))) in
    let last : c.pop.new.self.items ++ w.field-0 ∷ [] ≡ doubts ++ Wrote name write [] ∷ [] =
    sym w.ensures.items ∙ (ap (λ (j : Journal). j.doubts) c.self.view_is ∙ doubted) in
    let same = same_from_push c.pop.new.self.items doubts w.field-0 (Wrote name write []) last in
    let entry : c.seen_in.result ≡ Wrote name write c.args.records =
    c.seen_in.ensures ∙ wrote-same w.name name w.write write w.field-0-2 [] c.args.records (sym w.field-0-is ∙ same.1) in
    let made : c.push_reserved.new.self.items ≡ before ++ Wrote name write c.args.records ∷ [] =
    c.push_reserved.ensures.items ∙ rw (c.truncate.ensures.items, front, entry) refl in
    rw (sym c.self.view_is, made, same.0) refl
