-- A row that was merged stands, or one of its name that counts at least as much; and so does the row of its name after a run.
use Rattle.std.proofs.Common.{◌≡◌, ℕ, List, [], ◌∷◌, Option, fold, refl, sym, subst, lit<}
use Rattle.sw_container_steps.specs.Entries.{rows_of}
use Rattle.sw_keeper.specs.declared.tables.Tables.{Tables}
use Rattle.sw_machine.proofs.Greatest.{fold-keeps}
use Rattle.sw_machine.specs.Laws.{IsGreatest, StandsAtLeast, row_named}
use Rattle.sw_rows.proofs.Greater.{at-least-trans}
use Rattle.sw_rows.specs.Rows.{Listed, find_named, merged}
use Rattle.sw_rows.specs.declared.row.Row.{Row}

pub merged-stands : (t u : Option Tables) (row : Row) → rows_of u ≡ fold merged (rows_of t) (row ∷ []) → StandsAtLeast (row_named row.name u) row
merged-stands t u row is =
    subst (λ (l : Listed). StandsAtLeast (find_named l.list row.name) row) (sym is)
    ((fold-keeps row.name (rows_of t) (row ∷ [])).reached row (0, lit< tt, refl) refl)

-- what counts at least as much as what stood does so as that
pub stands-on : (name : List ℕ) (before : Option Row) (rows : List Row) (after : Option Row) (row : Row) → IsGreatest name before rows after
    → StandsAtLeast before row → StandsAtLeast after row
stands-on name before rows after row greatest stands =
    let up = greatest.stood stands.0 stands.1 in
    (up.0, up.1, at-least-trans up.0 stands.0 row up.2 stands.2)
