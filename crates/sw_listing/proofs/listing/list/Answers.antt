use Rattle.std.proofs.Common.{◌≡◌, ◌≤◌, ℕ, List, [], ◌∷◌, ◌++◌, length, arith, sym, ◌∙◌, ap, subst}
use Rattle.sw_listing.proofs.Walks.{step-row, step-rolled, Walk, walk-done, walk-full, walk-start}
use Rattle.sw_listing.proofs.listing.list.Goals as goal
use Rattle.sw_listing.specs.Showing.{shown_entry}
use Rattle.sw_listing.specs.Walking.{Finds, IsLower, IsUpper, Skips}
use Rattle.sw_listing.specs.declared.entry.Entry.{Entry}
use Rattle.sw_listing.specs.declared.entry.Entry.TheVariants as entry
use Rattle.sw_rows.specs.declared.row.Row.{Row}

pub loop-left-init : goal.loop-left-init
loop-left-init c =
    let q = c.args.query.now in
    let list = c.args.rows.now.list in
    let left = c.in_ok-left.left in
    let low : IsLower q c.as_slice.result.now = subst (λ (l : List ℕ). IsLower q l) (sym c.as_slice.ensures.value) c.in_ok-span.ensures.lower in
    let high : IsUpper q c.as_slice-2.result.now = subst (λ (l : List ℕ). IsUpper q l) (sym c.as_slice-2.ensures.value) c.in_ok-span.ensures.upper in
    let start : Walk q list [] left =
    walk-start q list c.as_slice.result.now c.as_slice-2.result.now left c.in_ok-left.ensures.rule.once low high c.in_ok-left.ensures.rows in
    record {
      walk = subst (λ (out : List Entry). Walk q list out left) (sym c.new-entries.ensures.items) start;
      fits = omega (arith, c.new-entries.ensures.len);
    }

pub returns-in_default : goal.returns-in_default
returns-in_default c =
    let q = c.args.query.now in
    let out = c.loop-left.entries in
    let skips : Skips q c.loop-left.left [] = subst (λ (rows : List Row). Skips q c.loop-left.left rows) c.in_default.ensures.0 c.in_default.ensures.1 in
    let fits : length out.items ≤ q.limit = omega (arith, c.loop-left.invariant.fits, out.ok.0) in
    c.into.ensures ∙ walk-done q c.args.rows.now.list out.items c.loop-left.left c.in_ok-left.ensures.rule.once c.loop-left.invariant.walk skips fits

pub loop-left-preserved-in-Subdir : goal.loop-left-preserved-in-Subdir
loop-left-preserved-in-Subdir c =
    let q = c.args.query.now in
    let list = c.args.rows.now.list in
    let out = c.loop-left.entries.items in
    let text = c.in-Subdir.rolled.text.now in
    let shown : shown_entry c.in-Some.one ≡ entry.Subdir text = ap shown_entry c.in-Subdir.is in
    let finds : Finds q c.loop-left.left (entry.Subdir text) c.next_shown.new.left =
    subst (λ (e : Entry). Finds q c.loop-left.left e c.next_shown.new.left) shown c.in-Some.ensures in
    let pushed : c.push.new.self.items ≡ out ++ entry.Subdir text ∷ [] =
    c.in_ok-push.ensures.items ∙ ap (λ (e : Entry). out ++ e ∷ []) (c.in_ok-copy.ensures ∙ shown) in
    record {
      walk = subst (λ (t : List Entry). Walk q list t c.in_ok-left-2.left) (sym pushed)
          (step-rolled q list out c.loop-left.left c.next_shown.new.left c.in_ok-left-2.left c.in_ok-span.span.lower.items c.in_ok-span.span.upper.items text
          c.in_ok-left.ensures.rule.once c.in_ok-span.ensures.lower c.in_ok-span.ensures.upper c.loop-left.invariant.walk finds c.in_ok-left-2.ensures);
      fits = omega (arith, c.in_ok-push.ensures.len, c.loop-left-test.true, c.len.ensures);
    }

pub loop-left-preserved : goal.loop-left-preserved
loop-left-preserved c =
    let q = c.args.query.now in
    let list = c.args.rows.now.list in
    let out = c.loop-left.entries.items in
    let row = c.in_default-one.field-0.now in
    let shown : shown_entry c.in-Some.one ≡ entry.Row row = ap shown_entry c.in_default-one.is in
    let finds : Finds q c.loop-left.left (entry.Row row) c.next_shown.new.left =
    subst (λ (e : Entry). Finds q c.loop-left.left e c.next_shown.new.left) shown c.in-Some.ensures in
    let pushed : c.push.new.self.items ≡ out ++ entry.Row row ∷ [] =
    c.in_ok-push.ensures.items ∙ ap (λ (e : Entry). out ++ e ∷ []) (c.in_ok-copy.ensures ∙ shown) in
    record {
      walk = subst (λ (t : List Entry). Walk q list t c.next_shown.new.left) (sym pushed)
          (step-row q list out c.loop-left.left c.next_shown.new.left row c.loop-left.invariant.walk finds);
      fits = omega (arith, c.in_ok-push.ensures.len, c.loop-left-test.true, c.len.ensures);
    }

pub returns : goal.returns
returns c =
    let q = c.args.query.now in
    let out = c.loop-left.entries in
    let full : length out.items ≡ q.limit = omega (arith, c.loop-left.invariant.fits, out.ok.0, c.loop-left-test.false, c.len.ensures) in
    c.into-2.ensures ∙ walk-full q c.args.rows.now.list out.items c.loop-left.left c.in_ok-left.ensures.rule.once c.loop-left.invariant.walk full
