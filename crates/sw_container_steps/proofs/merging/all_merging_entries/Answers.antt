use Rattle.std.proofs.Common.{◌≡◌, ◌<◌, ◌∷◌, [], ◌++◌, true, false, length, refl, sym, ◌∙◌, ap, arith, List}
use Rattle.std.specs.Option.{option_or}
use Rattle.sw_rows.specs.Rows.{find_named, fits, merged}
use Rattle.sw_rows.specs.declared.row.Row.{Row}
use Rattle.sw_container_steps.specs.Entries.{rows_of}
use Rattle.sw_container_steps.specs.Steps.{merging_entries}
use Rattle.sw_container_steps.specs.declared.cont_entry.ContEntry.{ContEntry}
use Rattle.sw_container_steps.specs.declared.cont_entry.ContEntry.TheVariants.{Merged}
use Rattle.sw_keeper.proofs.Keeping.{told_anyway}
use Rattle.sw_container_steps.proofs.Over.{kept-none, kept-passed, kept-taken, one-longer, takes-some}
use Rattle.sw_container_steps.proofs.merging.all_merging_entries.Goals as goal
use Rattle.sw_container_steps.proofs.merging.all_merging_entries.Goals.{then-is_taken+in_ok-copy+in_ok-copy-2+in_ok-push+in_ok-copy-3+in_ok-merge}
use Rattle.sw_container_steps.proofs.merging.all_merging_entries.Goals.{else-is_taken}

pub loop-row-init : goal.loop-row-init
loop-row-init c =
    (kept-none (rows_of c.args.tables.now) c.empty-later.result c.args.place.now c.args.rows.now c.args.entries.items c.empty-later.ensures, omega arith)

pub loop-row-preserved : goal.loop-row-preserved
loop-row-preserved c =
    let within : c.loop-row.row-index < length c.args.rows.now = omega arith in
    let row : Row = c.row-item.result in
    let total : List ContEntry = c.args.entries.items ++ merging_entries (rows_of c.args.tables.now) c.args.place.now c.args.rows.now in
    elim c.if-is_taken.branch [
      | then-is_taken+in_ok-copy+in_ok-copy-2+in_ok-push+in_ok-copy-3+in_ok-merge w ↦
          (let taken : fits (option_or (find_named c.loop-row.later.list c.row-item.result.name)
          (find_named (rows_of c.args.tables.now).list c.row-item.result.name)) c.row-item.result ≡ true =
          sym c.is_taken.ensures ∙ w.if-is_taken.true in
          let later : c.if-is_taken.later ≡ merged c.loop-row.later c.row-item.result =
          w.later-is ∙ w.in_ok-merge.ensures.rows ∙ ap (λ (r : Row). merged c.loop-row.later r) w.in_ok-copy-3.ensures in
          let entries : c.if-is_taken.entries.items ≡ c.loop-row.entries.items ++ Merged c.args.place.now c.row-item.result ∷ [] =
          rw (w.entries-is, w.in_ok-push.ensures.items, w.in_ok-copy.ensures, w.in_ok-copy-2.ensures) refl in (
            kept-taken (rows_of c.args.tables.now) c.loop-row.later c.args.place.now c.args.rows.now c.loop-row.row-index c.loop-row.entries.items total
                c.row-item.result c.if-is_taken.later c.if-is_taken.entries.items
                c.loop-row.invariant.0 within c.row-item.is taken later entries,
            one-longer c.args.entries.items c.loop-row.entries.items c.if-is_taken.entries.items (Merged c.args.place.now c.row-item.result)
                c.loop-row.invariant.1 entries,
          ))
      | else-is_taken w ↦
          (let passed : fits (option_or (find_named c.loop-row.later.list c.row-item.result.name)
          (find_named (rows_of c.args.tables.now).list c.row-item.result.name)) c.row-item.result ≡ false =
          sym c.is_taken.ensures ∙ w.if-is_taken.false in
          rw (w.later-is, w.entries-is) (
            (kept-passed (rows_of c.args.tables.now) c.loop-row.later c.args.place.now c.args.rows.now c.loop-row.row-index c.loop-row.entries.items total
                c.row-item.result c.loop-row.invariant.0 within
                c.row-item.is passed),
            c.loop-row.invariant.1,
          ))
    ]

pub returns-in_err-copy-2-clause-starved : goal.returns-in_err-copy-2-clause-starved
returns-in_err-copy-2-clause-starved c =
    let within : c.loop-row.row-index < length c.args.rows.now = omega arith in
    told_anyway _ (takes-some (rows_of c.args.tables.now) c.loop-row.later c.args.place.now c.args.rows.now c.loop-row.row-index
    c.loop-row.entries.items c.args.entries.items c.row-item.result c.loop-row.invariant.0 c.loop-row.invariant.1 within c.row-item.is
    (sym c.is_taken.ensures ∙ c.if-is_taken.true))

pub returns-in_err-push-clause-starved : goal.returns-in_err-push-clause-starved
returns-in_err-push-clause-starved c =
    let within : c.loop-row.row-index < length c.args.rows.now = omega arith in
    told_anyway _ (takes-some (rows_of c.args.tables.now) c.loop-row.later c.args.place.now c.args.rows.now c.loop-row.row-index
    c.loop-row.entries.items c.args.entries.items c.row-item.result c.loop-row.invariant.0 c.loop-row.invariant.1 within c.row-item.is
    (sym c.is_taken.ensures ∙ c.if-is_taken.true))

pub returns-in_err-copy-3-clause-starved : goal.returns-in_err-copy-3-clause-starved
returns-in_err-copy-3-clause-starved c =
    let within : c.loop-row.row-index < length c.args.rows.now = omega arith in
    told_anyway _ (takes-some (rows_of c.args.tables.now) c.loop-row.later c.args.place.now c.args.rows.now c.loop-row.row-index
    c.loop-row.entries.items c.args.entries.items c.row-item.result c.loop-row.invariant.0 c.loop-row.invariant.1 within c.row-item.is
    (sym c.is_taken.ensures ∙ c.if-is_taken.true))

pub returns-in_err-merge-clause-starved : goal.returns-in_err-merge-clause-starved
returns-in_err-merge-clause-starved c =
    let within : c.loop-row.row-index < length c.args.rows.now = omega arith in
    told_anyway _ (takes-some (rows_of c.args.tables.now) c.loop-row.later c.args.place.now c.args.rows.now c.loop-row.row-index
    c.loop-row.entries.items c.args.entries.items c.row-item.result c.loop-row.invariant.0 c.loop-row.invariant.1 within c.row-item.is
    (sym c.is_taken.ensures ∙ c.if-is_taken.true))
