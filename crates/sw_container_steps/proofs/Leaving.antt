-- What the entries of rows leave.
use Rattle.std.proofs.Common.{◌≡◌, ℕ, max, nat_lt, Bool, true, false, cond, List, [], ◌∷◌, ◌++◌, Option, None, Some, refl, sym, ◌∙◌, ap, subst, arith}
use Rattle.std.specs.List.{fold}
use Rattle.std.specs.Option.{option_map_or}
use Rattle.std.proofs.lemmas.Bool.{le-ltb}
use Rattle.sw_hashpath.specs.declared.place.Place.{Place}
use Rattle.sw_keeper.specs.Changes.{begun}
use Rattle.sw_rows.specs.Rows.{Listed, find_named, fits, merged, no_rows}
use Rattle.sw_rows.specs.declared.row.Row.{Row}
use Rattle.sw_keeper.specs.declared.tables.Tables.{Tables}
use Rattle.sw_container_steps.specs.Entries.{all_entered, rows_of}
use Rattle.sw_container_steps.specs.Laws.{RowsAreMerged}
use Rattle.sw_container_steps.specs.Presence.{deletion_after, is_dotted, is_no_time, is_present}
use Rattle.sw_container_steps.specs.Steps.{created_by, creation_time, first_live, is_a_row, merging_entries, redirection}
use Rattle.sw_container_steps.specs.declared.cont_answer.ContAnswer.TheVariants as answers
use Rattle.sw_container_steps.specs.declared.cont_entry.ContEntry.TheVariants.{Merged}
use Rattle.sw_container_steps.proofs.Over.{merged-not}

-- tables with other rows
abbrev with_rows : Tables → Listed → Tables
with_rows t l = record t { rows = l }

pub merging-leaves : (t : Tables) (place : Place) (rows : List Row) → all_entered (Some t) (merging_entries t.rows place rows) ≡ Some
    (with_rows t (fold merged t.rows rows))
merging-leaves t place [] = refl
merging-leaves t place (row ∷ rows) = by (fits (find_named t.rows.list row.name) row) refl (merging-leaves (with_rows t (merged t.rows row)) place rows)
  where
    by : (b : Bool) → fits (find_named t.rows.list row.name) row ≡ b
        → all_entered (Some (with_rows t (merged t.rows row))) (merging_entries (merged t.rows row) place rows) ≡ Some
        (with_rows t (fold merged (merged t.rows row) rows))
        → all_entered (Some t) (cond b (Merged place row ∷ merging_entries (merged t.rows row) place rows) (merging_entries (merged t.rows row) place rows))
        ≡ Some (with_rows t (fold merged (merged t.rows row) rows))
    by true is rest = rest
    by false is rest =
        ap (λ (l : Listed). all_entered (Some (with_rows t l)) (merging_entries (merged t.rows row) place rows)) (sym (merged-not t.rows row is)) ∙ rest

-- a container that a row creates is there, though it was deleted
created-present : (put created : ℕ) (gone : Option ℕ) → is_no_time (deletion_after put gone) ≡ false
    → is_no_time (deletion_after (max created (option_map_or (λ g. g) (deletion_after put gone) 0)) gone) ≡ true
created-present put created None deleted = cc
created-present put created (Some gone) deleted = by (nat_lt put gone) deleted
  where
    later : nat_lt (max created gone) gone ≡ false
    later = le-ltb _ _ (omega arith)

    by : (b : Bool) → is_no_time (cond b (Some gone) None) ≡ false
        → is_no_time (cond (nat_lt (max created (option_map_or (λ g. g) (cond b (Some gone) None) 0)) gone) (Some gone) None) ≡ true
    by true deleted = ap (λ (b : Bool). is_no_time (cond b (Some gone) None)) later
    by false deleted = cc

pub rows-are-merged : RowsAreMerged
rows-are-merged None place rows allowed = at (cond (is_dotted place) (first_live rows) None) allowed
  where
    at : (o : Option Row) → cond (is_a_row o) None (Some answers.Absent) ≡ None
        → (is_present (all_entered None (created_by None place o ++ merging_entries no_rows place rows)) ≡ true)
        × (rows_of (all_entered None (created_by None place o ++ merging_entries no_rows place rows)) ≡ fold merged no_rows rows)
    at None allowed = cc
    at (Some row) allowed = subst (λ (x : Option Tables). (is_present x ≡ true) × (rows_of x ≡ fold merged no_rows rows))
        (sym (merging-leaves (begun (creation_time None row) None) place rows)) (refl, refl)
rows-are-merged (Some t) place rows allowed = at (is_present (Some t)) (cond (is_dotted place) (first_live rows) None) refl allowed
  where
    at : (b : Bool) (o : Option Row) → is_present (Some t) ≡ b
        → cond b (redirection (Some t) rows) (cond (is_a_row (cond b None o)) None (Some answers.Absent)) ≡ None
        → (is_present (all_entered (Some t) (created_by (Some t) place (cond b None o) ++ merging_entries t.rows place rows)) ≡ true)
        × (rows_of (all_entered (Some t) (created_by (Some t) place (cond b None o) ++ merging_entries t.rows place rows)) ≡ fold merged t.rows rows)
    at true o is allowed = subst (λ (x : Option Tables). (is_present x ≡ true) × (rows_of x ≡ fold merged t.rows rows)) (sym (merging-leaves t place rows))
        (is, refl)
    at false None is allowed = cc
    at false (Some row) is allowed =
        subst (λ (x : Option Tables). (is_present x ≡ true) × (rows_of x ≡ fold merged t.rows rows))
        (sym (merging-leaves (record t { put_time = creation_time (Some t) row }) place rows))
        (created-present t.put_time row.created_at t.delete_time is, refl)
