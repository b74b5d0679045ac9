use Rattle.std.proofs.Common.{◌++◌, ◌∷◌, [], List, sym, ◌∙◌, ap, append_assoc}
use Rattle.std.proofs.lemmas.List.{append-nil}
use Rattle.std.specs.Arc.{arc_value}
use Rattle.sw_rows.specs.Rows.{rows_above}
use Rattle.sw_rows.specs.declared.numbered.Numbered.{Numbered}
use Rattle.sw_rows.specs.declared.row.Row.{Row}
use Rattle.sw_rows.proofs.Above.{above-part, starved, values_in}
use Rattle.sw_rows.proofs.numbers.Numbers.copies_above.Goals as goal

pub loop-row-init : goal.loop-row-init
loop-row-init c =
    ap (λ (t : List Row). t ++ values_in c.into_iter-row-iterator.result) c.new-rows.ensures.items
    ∙ ap values_in (c.into_iter-row-iterator.ensures.into_iter_gives ∙ c.range-row-items.ensures.between tt)
    ∙ above-part c.self.inside.rows.entries c.args.rowid ∙ ap (λ (t : List Numbered). rows_above c.args.rowid t) c.self.view_is

pub loop-row-preserved : goal.loop-row-preserved
loop-row-preserved c =
    ap (λ (t : List Row). t ++ values_in c.next.new.self) c.in_ok-push.ensures.items
    ∙ append_assoc c.loop-row.rows.items (c.in_ok-copy.field-0 ∷ []) (values_in c.next.new.self)
    ∙ ap (λ (t : Row). c.loop-row.rows.items ++ t ∷ values_in c.next.new.self) (c.in_ok-copy.ensures ∙ c.deref.ensures)
    ∙ ap (λ t. c.loop-row.rows.items ++ values_in t) (sym c.in-Some.ensures.steps) ∙ c.loop-row.invariant

pub returns-in_err-copy-clause-starved : goal.returns-in_err-copy-clause-starved
returns-in_err-copy-clause-starved c =
    starved c.from_residual.result c.loop-row.rows.items (values_in c.next.new.self) (rows_above c.args.rowid c.args.self.now) (arc_value c.in-Some.row.now)
    (ap (λ t. c.loop-row.rows.items ++ values_in t) (sym c.in-Some.ensures.steps) ∙ c.loop-row.invariant)

pub returns-in_err-push-clause-starved : goal.returns-in_err-push-clause-starved
returns-in_err-push-clause-starved c =
    starved c.from_residual-in_err-push.result c.loop-row.rows.items (values_in c.next.new.self) (rows_above c.args.rowid c.args.self.now)
    (arc_value c.in-Some.row.now)
    (ap (λ t. c.loop-row.rows.items ++ values_in t) (sym c.in-Some.ensures.steps) ∙ c.loop-row.invariant)

pub returns-clause-ok : goal.returns-clause-ok
returns-clause-ok c =
    sym (append-nil c.loop-row.rows.items) ∙ ap (λ t. c.loop-row.rows.items ++ values_in t) (sym c.in-None.ensures.steps.0) ∙ c.loop-row.invariant
