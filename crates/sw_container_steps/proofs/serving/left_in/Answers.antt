use Rattle.std.proofs.Common.{◌≡◌, ◌++◌, List, true, false, refl, ◌∙◌, ap}
use Rattle.std.specs.List.{filter}
use Rattle.std.specs.Prelude.{is_none}
use Rattle.sw_container_steps.proofs.Shards.{left-all, left-passed, left-put, none-lent}
use Rattle.sw_container_steps.proofs.serving.left_in.Goals as goal
use Rattle.sw_container_steps.specs.Serving.{served}
use Rattle.sw_rows.specs.Left.{rows_left}
use Rattle.sw_rows.specs.Rows.{restored, Listed}
use Rattle.sw_rows.specs.declared.numbered.Numbered.{Numbered}
use Rattle.sw_rows.specs.declared.row.Row.{Row}
use Rattle.sw_rows.specs.declared.rows_iter.RowsIter.{RowsIter}

pub loop-rowid-init : goal.loop-rowid-init
loop-rowid-init c = (
  ap (λ (l : Listed). l.list ++ filter (λ n. is_none (served c.args.tables.now n.row.name)) (rows_left c.into_iter-rowid-iterator.result))
      c.empty_at-left.ensures
      ∙ ap (λ (it : RowsIter). filter (λ n. is_none (served c.args.tables.now n.row.name)) (rows_left it)) c.into_iter-rowid-iterator.ensures.into_iter_gives
      ∙ ap (λ (ns : List Numbered). filter (λ n. is_none (served c.args.tables.now n.row.name)) ns) c.iter-rowid-items.ensures.rows,
  ap (λ (l : Listed). l.top) c.empty_at-left.ensures ∙ c.top.ensures,
)

pub loop-rowid-preserved-in_ok-restore : goal.loop-rowid-preserved-in_ok-restore
loop-rowid-preserved-in_ok-restore c =
    let n : Numbered = record { rowid = c.in-Some.rowid; row = c.in-Some.row.now } in
    let stays : is_none (served c.args.tables.now c.in-Some.row.now.name) ≡ true =
    none-lent c.served.result _ true (c.is_none.ensures ∙ rw c.if-is_none.true refl) (c.served.ensures ∙ rw c.as_slice.ensures refl) in
    left-put c.args.tables.now c.loop-rowid.left c.restore.new.self n (rows_left c.next.new.self) (rows_left c.loop-rowid.rowid-iterator)
    c.iter-rowid-items.ensures.rule c.in-Some.ensures.steps c.loop-rowid.invariant.0 c.loop-rowid.invariant.1 stays
    (c.in_ok-restore.ensures.rows ∙ ap (λ (row : Row). restored c.loop-rowid.left c.in-Some.rowid row) c.in_ok-copy.ensures)

pub loop-rowid-preserved : goal.loop-rowid-preserved
loop-rowid-preserved c =
    let n : Numbered = record { rowid = c.in-Some.rowid; row = c.in-Some.row.now } in
    let passes : is_none (served c.args.tables.now c.in-Some.row.now.name) ≡ false =
    none-lent c.served.result _ false (c.is_none.ensures ∙ rw c.if-is_none.false refl) (c.served.ensures ∙ rw c.as_slice.ensures refl) in (
      left-passed c.args.tables.now c.loop-rowid.left n (rows_left c.next.new.self) (rows_left c.loop-rowid.rowid-iterator)
          c.in-Some.ensures.steps c.loop-rowid.invariant.0 passes,
      c.loop-rowid.invariant.1,
    )

pub returns : goal.returns
returns c =
    left-all c.args.tables.now c.loop-rowid.left (rows_left c.loop-rowid.rowid-iterator) c.in-None.ensures.steps.0 c.loop-rowid.invariant.0
    c.loop-rowid.invariant.1
