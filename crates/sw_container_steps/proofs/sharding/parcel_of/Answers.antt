use Rattle.std.proofs.Common.{◌≡◌, ◌++◌, ◌∷◌, [], Bool, List, refl, sym, ◌∙◌, ap}
use Rattle.sw_container_steps.proofs.Parcels.{passes-all, passes-here, passes-later, passes-some, passing}
use Rattle.sw_container_steps.proofs.sharding.parcel_of.Goals as goal
use Rattle.sw_container_steps.specs.Reads.{range_rows}
use Rattle.sw_container_steps.specs.Serving.{is_of_range}
use Rattle.sw_rows.specs.Left.{rows_left}
use Rattle.sw_rows.specs.declared.numbered.Numbered.{Numbered}
use Rattle.sw_rows.specs.declared.row.Row.{Row}
use Rattle.sw_rows.specs.declared.rows_iter.RowsIter.{RowsIter}

pub loop-rowid-init : goal.loop-rowid-init
loop-rowid-init c =
    let p : Numbered → Bool = is_of_range c.args.ranges.now c.args.range c.args.point in
    ap (λ (rows : List Row). rows ++ passing p (rows_left c.into_iter-rowid-iterator.result)) c.new-rows.ensures.items
    ∙ ap (λ (it : RowsIter). passing p (rows_left it)) c.into_iter-rowid-iterator.ensures.into_iter_gives
    ∙ ap (λ (ns : List Numbered). passing p ns) c.iter-rowid-items.ensures.rows

pub returns-in_err-copy-clause-starved : goal.returns-in_err-copy-clause-starved
returns-in_err-copy-clause-starved c =
    let n : Numbered = record { rowid = c.in-Some.rowid; row = c.in-Some.row.now } in
    passes-some (is_of_range c.args.ranges.now c.args.range c.args.point) n (rows_left c.next.new.self) (rows_left c.loop-rowid.rowid-iterator)
    c.in-Some.ensures.steps c.loop-rowid.rows.items (range_rows c.args.ranges.now c.args.range c.args.point c.args.tables.now) c.loop-rowid.invariant
    c.from_residual.result (sym c.if-is_of_range.ensures)

pub loop-rowid-preserved-in_ok-push : goal.loop-rowid-preserved-in_ok-push
loop-rowid-preserved-in_ok-push c =
    let n : Numbered = record { rowid = c.in-Some.rowid; row = c.in-Some.row.now } in
    let more : c.push.new.self.items ≡ c.loop-rowid.rows.items ++ c.in-Some.row.now ∷ [] =
    (rw c.in_ok-copy.ensures at c.in_ok-push.ensures.items) in
    passes-here (is_of_range c.args.ranges.now c.args.range c.args.point) n (rows_left c.next.new.self) (rows_left c.loop-rowid.rowid-iterator)
    c.in-Some.ensures.steps c.loop-rowid.rows.items (range_rows c.args.ranges.now c.args.range c.args.point c.args.tables.now) c.loop-rowid.invariant
    c.push.new.self.items (sym c.if-is_of_range.ensures) more

pub returns-in_err-push-clause-starved : goal.returns-in_err-push-clause-starved
returns-in_err-push-clause-starved c =
    let n : Numbered = record { rowid = c.in-Some.rowid; row = c.in-Some.row.now } in
    passes-some (is_of_range c.args.ranges.now c.args.range c.args.point) n (rows_left c.next.new.self) (rows_left c.loop-rowid.rowid-iterator)
    c.in-Some.ensures.steps c.loop-rowid.rows.items (range_rows c.args.ranges.now c.args.range c.args.point c.args.tables.now) c.loop-rowid.invariant
    c.from_residual-in_err-push.result (sym c.if-is_of_range.ensures)

pub loop-rowid-preserved : goal.loop-rowid-preserved
loop-rowid-preserved c =
    let n : Numbered = record { rowid = c.in-Some.rowid; row = c.in-Some.row.now } in
    passes-later (is_of_range c.args.ranges.now c.args.range c.args.point) n (rows_left c.next.new.self) (rows_left c.loop-rowid.rowid-iterator)
    c.in-Some.ensures.steps c.loop-rowid.rows.items (range_rows c.args.ranges.now c.args.range c.args.point c.args.tables.now) c.loop-rowid.invariant
    (sym c.if-is_of_range.ensures)

pub returns-clause-ok : goal.returns-clause-ok
returns-clause-ok c =
    let all : c.loop-rowid.rows.items ≡ range_rows c.args.ranges.now c.args.range c.args.point c.args.tables.now =
    passes-all (is_of_range c.args.ranges.now c.args.range c.args.point) (rows_left c.loop-rowid.rowid-iterator) c.loop-rowid.rows.items
    (range_rows c.args.ranges.now c.args.range c.args.point c.args.tables.now) c.in-None.ensures.steps.0 c.loop-rowid.invariant in
    rw (c.into.ensures, all, c.top.ensures) refl
