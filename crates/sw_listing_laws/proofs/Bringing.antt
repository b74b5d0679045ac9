-- Rows that a step at a container leaves are those that stood or came.
use Rattle.std.proofs.Common.{◌+◌, nat_lt, Bool, true, false, cond, not, List, [], ◌∷◌, ◌++◌, length, Option, None, Some}
use Rattle.std.specs.Bool.{⊤}
use Rattle.std.specs.List.{All, fold}
use Rattle.std.proofs.lemmas.List.Elements.{All-filter, All-head, All-nil, All-push, All-tail}
use Rattle.sw_container_steps.specs.Entries.{closed, emptied, entered, ranged, rows_of}
use Rattle.sw_container_steps.specs.Steps.{created_by, creator, entries_for, merging_entries, rows_entries}
use Rattle.sw_container_steps.specs.declared.cont_change.ContChange.{ContChange}
use Rattle.sw_container_steps.specs.declared.cont_change.ContChange.TheVariants.{Create, Remove, MergeRow, MergeRows, SetRanges, Ack, CloseRange}
use Rattle.sw_container_steps.specs.declared.cont_change.ContChange.TheVariants.{EmptyOut, SetSync}
use Rattle.sw_container_steps.specs.declared.cont_entry.ContEntry.{ContEntry}
use Rattle.sw_container_steps.specs.declared.cont_entry.ContEntry.TheVariants.{Created, Removed, Merged, Ranged, Acked, Closed, Emptied, Synced}
use Rattle.sw_hashpath.specs.declared.place.Place.{Place}
use Rattle.sw_keeper.specs.declared.tables.Tables.{Tables}
use Rattle.sw_machine.specs.Machine.{rows_in}
use Rattle.sw_rows.specs.Rows.{Listed, find_named, fits, is_named, merged, no_rows_at, with_row, without}
use Rattle.sw_rows.specs.declared.numbered.Numbered.{Numbered}
use Rattle.sw_rows.specs.declared.row.Row.{Row}
use Rattle.sw_shard_range.specs.States.{all_in_state, with_state}
use Rattle.sw_shard_range.specs.declared.range.Range.{Range}
use Rattle.sw_sync.specs.Points.{is_above, point_at}

-- all its rows are such
abbrev pub HasOnly : (Row → Type 0) → Listed → Type 0
HasOnly P l = All (λ (n : Numbered). P n.row) l.list

module _ (P : Row → Type 0) where
  only-merged : (l : Listed) (row : Row) → HasOnly P l → P row → HasOnly P (merged l row)
  only-merged l row only this = by (fits (find_named l.list row.name) row)
    where
      Q : Numbered → Type 0
      Q n = P n.row

      by : (b : Bool) → HasOnly P (cond b (with_row l row) l)
      by true =
          All-push Q (without row.name l.list) (record { rowid = l.top + 1; row = row }) (All-filter (λ n. not (is_named row.name n)) Q l.list only) this
      by false = only

  -- ---- entries

  -- the row that an entry merges, where it is one of a row, is such
  abbrev MergesOnly : ContEntry → Type 0
  MergesOnly (Created place time) = ⊤
  MergesOnly (Removed place time) = ⊤
  MergesOnly (Merged place row) = P row
  MergesOnly (Ranged place ranges) = ⊤
  MergesOnly (Acked place range device rowid) = ⊤
  MergesOnly (Closed place range) = ⊤
  MergesOnly (Emptied place) = ⊤
  MergesOnly (Synced place device rowid) = ⊤

  abbrev AllMergeOnly : List ContEntry → Type 0
  AllMergeOnly [] = ⊤
  AllMergeOnly (e ∷ es) = MergesOnly e × AllMergeOnly es

  only-ranged : (t : Tables) (o : Option (List Range)) (ranges : List Range) → HasOnly P t.rows → HasOnly P (ranged t o ranges).rows
  only-ranged t None ranges only = only
  only-ranged t (Some old) ranges only = only

  only-closed : (t : Tables) (o : Option (List Range)) → HasOnly P t.rows → HasOnly P (closed t o).rows
  only-closed t None only = only
  only-closed t (Some ranges) only = by (nat_lt t.cursor (length ranges))
    where
      by : (b : Bool) → HasOnly P (cond b (record t { ranges = Some (with_state 30 t.cursor ranges); cursor = t.cursor + 1 }) t).rows
      by true = only
      by false = only

  only-emptied : (t : Tables) (o : Option (List Range)) → HasOnly P t.rows → HasOnly P (emptied t o).rows
  only-emptied t None only = only
  only-emptied t (Some ranges) only = by (nat_lt t.cursor (length ranges))
    where
      by : (b : Bool)
          → HasOnly P (cond b t (record t { rows = no_rows_at t.rows.top; ranges = Some (all_in_state 40 ranges); emptied = true })).rows
      by true = only
      by false = All-nil (λ (n : Numbered). P n.row)

  only-entered : (t : Option Tables) (e : ContEntry) → MergesOnly e → HasOnly P (rows_of t) → HasOnly P (rows_of (entered t e))
  only-entered None (Created place time) this only = only
  only-entered None (Removed place time) this only = only
  only-entered None (Merged place row) this only = only
  only-entered None (Ranged place ranges) this only = only
  only-entered None (Acked place range device rowid) this only = only
  only-entered None (Closed place range) this only = only
  only-entered None (Emptied place) this only = only
  only-entered None (Synced place device rowid) this only = only
  only-entered (Some t) (Created place time) this only = only
  only-entered (Some t) (Removed place time) this only = only
  only-entered (Some t) (Merged place row) this only = only-merged t.rows row only this
  only-entered (Some t) (Ranged place ranges) this only = only-ranged t t.ranges ranges only
  only-entered (Some t) (Acked place range device rowid) this only = only
  only-entered (Some t) (Closed place range) this only = only-closed t t.ranges only
  only-entered (Some t) (Emptied place) this only = only-emptied t t.ranges only
  only-entered (Some t) (Synced place device rowid) this only = only

  only-after : (t : Option Tables) (es : List ContEntry) → AllMergeOnly es → HasOnly P (rows_of t) → HasOnly P (rows_of (fold entered t es))
  only-after t [] these only = only
  only-after t (e ∷ es) these only = only-after (entered t e) es these.1 (only-entered t e these.0 only)

  -- ---- those of a step

  merge-append : (xs ys : List ContEntry) → AllMergeOnly xs → AllMergeOnly ys → AllMergeOnly (xs ++ ys)
  merge-append [] ys these those = those
  merge-append (x ∷ xs) ys these those = (these.0, merge-append xs ys these.1 those)

  merging-only : (l : Listed) (place : Place) (rows : List Row) → All P rows → AllMergeOnly (merging_entries l place rows)
  merging-only l place [] all = tt
  merging-only l place (row ∷ rows) all =
      by (fits (find_named l.list row.name) row) (merging-only (merged l row) place rows (All-tail P row rows all))
    where
      by : (b : Bool) → AllMergeOnly (merging_entries (merged l row) place rows)
          → AllMergeOnly (cond b (Merged place row ∷ merging_entries (merged l row) place rows) (merging_entries (merged l row) place rows))
      by true rest = (All-head P row rows all, rest)
      by false rest = rest

  created-only : (t : Option Tables) (place : Place) (row : Option Row) → AllMergeOnly (created_by t place row)
  created-only t place None = tt
  created-only t place (Some row) = (tt, tt)

  rows-only : (t : Option Tables) (place : Place) (rows : List Row) → All P rows → AllMergeOnly (rows_entries t place rows)
  rows-only t place rows all =
      merge-append (created_by t place (creator t place rows)) (merging_entries (rows_of t) place rows) (created-only t place (creator t place rows))
      (merging-only (rows_of t) place rows all)

  -- an entry of no row, or none
  maybe-first : (b : Bool) (e : ContEntry) → MergesOnly e → AllMergeOnly (cond b (e ∷ []) [])
  maybe-first true e this = (this, tt)
  maybe-first false e this = tt

  maybe-none : (b : Bool) (e : ContEntry) → MergesOnly e → AllMergeOnly (cond b [] (e ∷ []))
  maybe-none true e this = tt
  maybe-none false e this = (this, tt)

  entries-only : (t : Option Tables) (place : Place) (change : ContChange) → All P (rows_in change) → AllMergeOnly (entries_for t place change)
  entries-only None place (Create time) all = (tt, tt)
  entries-only (Some t) place (Create time) all = maybe-first (nat_lt t.put_time time) (Created place time) tt
  entries-only t place (Remove time) all = (tt, tt)
  entries-only t place (MergeRow row) all = rows-only t place (row ∷ []) all
  entries-only t place (MergeRows rows) all = rows-only t place rows all
  entries-only t place (SetRanges ranges) all = (tt, tt)
  entries-only None place (Ack range device rowid) all = tt
  entries-only (Some t) place (Ack range device rowid) all =
      maybe-first (is_above rowid (point_at t.points range device)) (Acked place range device rowid) tt
  entries-only None place (CloseRange range devices) all = tt
  entries-only (Some t) place (CloseRange range devices) all = maybe-none (nat_lt range t.cursor) (Closed place range) tt
  entries-only None place EmptyOut all = tt
  entries-only (Some t) place EmptyOut all = maybe-none t.emptied (Emptied place) tt
  entries-only None place (SetSync device rowid) all = tt
  entries-only (Some t) place (SetSync device rowid) all = maybe-first (is_above rowid (point_at t.syncs 0 device)) (Synced place device rowid) tt

  -- what a step leaves, over whatever it was decided by
  pub step-only : (t read : Option Tables) (place : Place) (change : ContChange) → All P (rows_in change) → HasOnly P (rows_of t)
      → HasOnly P (rows_of (fold entered t (entries_for read place change)))
  step-only t read place change all only = only-after t (entries_for read place change) (entries-only read place change all) only
