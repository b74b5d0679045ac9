use Rattle.std.proofs.Common.{◌≡◌, Bool, true, false, List, Option, sym, ◌∙◌, ap}
use Rattle.std.specs.List.{find}
use Rattle.std.specs.Option.{option_map}
use Rattle.sw_container_steps.proofs.Shards.{find-here, find-later}
use Rattle.sw_container_steps.proofs.refusing.later_row.Goals as goal
use Rattle.sw_container_steps.specs.Serving.{is_of_range}
use Rattle.sw_rows.specs.Left.{rows_left}
use Rattle.sw_rows.specs.declared.numbered.Numbered.{Numbered}
use Rattle.sw_rows.specs.declared.rows_iter.RowsIter.{RowsIter}

pub loop-number-init : goal.loop-number-init
loop-number-init c =
    let p : Numbered → Bool = is_of_range c.args.ranges.now c.args.range c.args.rowid in
    ap (λ (it : RowsIter). find p (rows_left it)) c.into_iter-number-iterator.ensures.into_iter_gives
    ∙ ap (λ (ns : List Numbered). find p ns) c.iter-number-items.ensures.rows

pub returns-then-is_of_range : goal.returns-then-is_of_range
returns-then-is_of_range c =
    let p : Numbered → Bool = is_of_range c.args.ranges.now c.args.range c.args.rowid in
    let n : Numbered = record { rowid = c.in-Some.number; row = c.in-Some.row.now } in
    let passes : p n ≡ true = sym c.if-is_of_range.ensures in
    let list : List Numbered = c.args.tables.now.rows.list in
    ap (λ (o : Option Numbered). option_map (λ x. x.rowid) o)
    (sym (find-here p n (rows_left c.next.new.self) (rows_left c.loop-number.number-iterator) c.in-Some.ensures.steps (find p list) passes
    c.loop-number.invariant))

pub loop-number-preserved : goal.loop-number-preserved
loop-number-preserved c =
    let p : Numbered → Bool = is_of_range c.args.ranges.now c.args.range c.args.rowid in
    let n : Numbered = record { rowid = c.in-Some.number; row = c.in-Some.row.now } in
    let fails : p n ≡ false = sym c.if-is_of_range.ensures in
    find-later p n (rows_left c.next.new.self) (rows_left c.loop-number.number-iterator) c.in-Some.ensures.steps (find p c.args.tables.now.rows.list) fails
    c.loop-number.invariant

pub returns : goal.returns
returns c =
    let p : Numbered → Bool = is_of_range c.args.ranges.now c.args.range c.args.rowid in
    ap (λ (o : Option Numbered). option_map (λ x. x.rowid) o)
    (sym (ap (λ (ns : List Numbered). find p ns) c.in-None.ensures.steps.0) ∙ c.loop-number.invariant)
