-- Shards of the lists of ranges that a step at a container leaves are those of the list that stood, or of the one that came.
use Rattle.std.proofs.Common.{◌+◌, zero, suc, nat_lt, Bool, true, false, cond, List, [], ◌∷◌, ◌++◌, length, Option, None, Some, ℕ}
use Rattle.std.specs.Bool.{⊤}
use Rattle.std.specs.List.{All, fold}
use Rattle.std.proofs.lemmas.List.Elements.{All-cons, All-head, All-tail}
use Rattle.sw_container_steps.specs.Entries.{closed, emptied, entered, ranged, rows_of}
use Rattle.sw_container_steps.specs.Steps.{created_by, creator, entries_for, merging_entries, rows_entries}
use Rattle.sw_container_steps.specs.declared.cont_change.ContChange.{ContChange}
use Rattle.sw_container_steps.specs.declared.cont_change.ContChange.TheVariants.{Create, Remove, MergeRow, MergeRows, SetRanges, Ack, CloseRange}
use Rattle.sw_container_steps.specs.declared.cont_change.ContChange.TheVariants.{EmptyOut, SetSync}
use Rattle.sw_container_steps.specs.declared.cont_entry.ContEntry.{ContEntry}
use Rattle.sw_container_steps.specs.declared.cont_entry.ContEntry.TheVariants.{Created, Removed, Merged, Ranged, Acked, Closed, Emptied, Synced}
use Rattle.sw_hashpath.specs.declared.place.Place.{Place}
use Rattle.sw_keeper.specs.declared.tables.Tables.{Tables}
use Rattle.sw_rows.specs.Rows.{Listed, find_named, fits, merged, no_rows_at}
use Rattle.sw_rows.specs.declared.row.Row.{Row}
use Rattle.sw_shard_range.specs.States.{all_in_state, with_state}
use Rattle.sw_shard_range.specs.declared.range.Range.{Range}
use Rattle.sw_sync.specs.Points.{is_above, point_at}

-- the list of shard ranges that a container has
abbrev pub list_of : Option Tables → Option (List Range)
list_of None = None
list_of (Some t) = t.ranges

-- the ranges of a step that sets a list
abbrev pub ranges_in : ContChange → List Range
ranges_in (Create time) = []
ranges_in (Remove time) = []
ranges_in (MergeRow row) = []
ranges_in (MergeRows rows) = []
ranges_in (SetRanges ranges) = ranges
ranges_in (Ack range device rowid) = []
ranges_in (CloseRange range devices) = []
ranges_in EmptyOut = []
ranges_in (SetSync device rowid) = []

-- what is asked of the shards of ranges, and of those of a list where there is one
module _ (P : Place → Type 0) where
  abbrev pub AreShards : List Range → Type 0
  AreShards ranges = All (λ (r : Range). P r.shard) ranges

  abbrev pub AreListed : Option (List Range) → Type 0
  AreListed None = ⊤
  AreListed (Some ranges) = AreShards ranges

  abbrev Q : Range → Type 0
  Q r = P r.shard

  -- ---- how far ranges have come doesn't matter

  all-in-state : (state : ℕ) (ranges : List Range) → AreShards ranges → AreShards (all_in_state state ranges)
  all-in-state state [] are = are
  all-in-state state (r ∷ rs) are =
      All-cons Q (record r { state = state }) (all_in_state state rs) (All-head Q r rs are) (all-in-state state rs (All-tail Q r rs are))

  one-in-state : (state index : ℕ) (ranges : List Range) → AreShards ranges → AreShards (with_state state index ranges)
  one-in-state state index [] are = are
  one-in-state state zero (r ∷ rs) are = All-cons Q (record r { state = state }) rs (All-head Q r rs are) (All-tail Q r rs are)
  one-in-state state (suc index) (r ∷ rs) are =
      All-cons Q r (with_state state index rs) (All-head Q r rs are) (one-in-state state index rs (All-tail Q r rs are))

  -- ---- entries

  -- the list that an entry sets, where it sets one, is such
  abbrev SetsOnly : ContEntry → Type 0
  SetsOnly (Created place time) = ⊤
  SetsOnly (Removed place time) = ⊤
  SetsOnly (Merged place row) = ⊤
  SetsOnly (Ranged place ranges) = AreShards ranges
  SetsOnly (Acked place range device rowid) = ⊤
  SetsOnly (Closed place range) = ⊤
  SetsOnly (Emptied place) = ⊤
  SetsOnly (Synced place device rowid) = ⊤

  abbrev AllSetOnly : List ContEntry → Type 0
  AllSetOnly [] = ⊤
  AllSetOnly (e ∷ es) = SetsOnly e × AllSetOnly es

  listed-ranged : (t : Tables) (o : Option (List Range)) (ranges : List Range) → AreShards ranges → AreListed t.ranges
      → AreListed (ranged t o ranges).ranges
  listed-ranged t None ranges these are = all-in-state 20 ranges these
  listed-ranged t (Some old) ranges these are = are

  listed-closed : (t : Tables) (o : Option (List Range)) → AreListed o → AreListed t.ranges → AreListed (closed t o).ranges
  listed-closed t None old are = are
  listed-closed t (Some ranges) old are = by (nat_lt t.cursor (length ranges))
    where
      by : (b : Bool)
          → AreListed (cond b (record t { ranges = Some (with_state 30 t.cursor ranges); cursor = t.cursor + 1 }) t).ranges
      by true = one-in-state 30 t.cursor ranges old
      by false = are

  listed-emptied : (t : Tables) (o : Option (List Range)) → AreListed o → AreListed t.ranges → AreListed (emptied t o).ranges
  listed-emptied t None old are = are
  listed-emptied t (Some ranges) old are = by (nat_lt t.cursor (length ranges))
    where
      by : (b : Bool)
          → AreListed (cond b t (record t { rows = no_rows_at t.rows.top; ranges = Some (all_in_state 40 ranges); emptied = true })).ranges
      by true = are
      by false = all-in-state 40 ranges old

  listed-entered : (t : Option Tables) (e : ContEntry) → SetsOnly e → AreListed (list_of t) → AreListed (list_of (entered t e))
  listed-entered None (Created place time) this are = tt
  listed-entered None (Removed place time) this are = tt
  listed-entered None (Merged place row) this are = tt
  listed-entered None (Ranged place ranges) this are = tt
  listed-entered None (Acked place range device rowid) this are = tt
  listed-entered None (Closed place range) this are = tt
  listed-entered None (Emptied place) this are = tt
  listed-entered None (Synced place device rowid) this are = tt
  listed-entered (Some t) (Created place time) this are = are
  listed-entered (Some t) (Removed place time) this are = are
  listed-entered (Some t) (Merged place row) this are = are
  listed-entered (Some t) (Ranged place ranges) this are = listed-ranged t t.ranges ranges this are
  listed-entered (Some t) (Acked place range device rowid) this are = are
  listed-entered (Some t) (Closed place range) this are = listed-closed t t.ranges are are
  listed-entered (Some t) (Emptied place) this are = listed-emptied t t.ranges are are
  listed-entered (Some t) (Synced place device rowid) this are = are

  listed-after : (t : Option Tables) (es : List ContEntry) → AllSetOnly es → AreListed (list_of t) → AreListed (list_of (fold entered t es))
  listed-after t [] these are = are
  listed-after t (e ∷ es) these are = listed-after (entered t e) es these.1 (listed-entered t e these.0 are)

  -- ---- those of a step

  set-append : (xs ys : List ContEntry) → AllSetOnly xs → AllSetOnly ys → AllSetOnly (xs ++ ys)
  set-append [] ys these those = those
  set-append (x ∷ xs) ys these those = (these.0, set-append xs ys these.1 those)

  merging-sets : (l : Listed) (place : Place) (rows : List Row) → AllSetOnly (merging_entries l place rows)
  merging-sets l place [] = tt
  merging-sets l place (row ∷ rows) = by (fits (find_named l.list row.name) row) (merging-sets (merged l row) place rows)
    where
      by : (b : Bool) → AllSetOnly (merging_entries (merged l row) place rows)
          → AllSetOnly (cond b (Merged place row ∷ merging_entries (merged l row) place rows) (merging_entries (merged l row) place rows))
      by true rest = (tt, rest)
      by false rest = rest

  created-sets : (t : Option Tables) (place : Place) (row : Option Row) → AllSetOnly (created_by t place row)
  created-sets t place None = tt
  created-sets t place (Some row) = (tt, tt)

  rows-set : (t : Option Tables) (place : Place) (rows : List Row) → AllSetOnly (rows_entries t place rows)
  rows-set t place rows =
      set-append (created_by t place (creator t place rows)) (merging_entries (rows_of t) place rows) (created-sets t place (creator t place rows))
      (merging-sets (rows_of t) place rows)

  -- an entry of no list, or none
  maybe-first : (b : Bool) (e : ContEntry) → SetsOnly e → AllSetOnly (cond b (e ∷ []) [])
  maybe-first true e this = (this, tt)
  maybe-first false e this = tt

  maybe-none : (b : Bool) (e : ContEntry) → SetsOnly e → AllSetOnly (cond b [] (e ∷ []))
  maybe-none true e this = tt
  maybe-none false e this = (this, tt)

  entries-set : (t : Option Tables) (place : Place) (change : ContChange) → AreShards (ranges_in change) → AllSetOnly (entries_for t place change)
  entries-set None place (Create time) these = (tt, tt)
  entries-set (Some t) place (Create time) these = maybe-first (nat_lt t.put_time time) (Created place time) tt
  entries-set t place (Remove time) these = (tt, tt)
  entries-set t place (MergeRow row) these = rows-set t place (row ∷ [])
  entries-set t place (MergeRows rows) these = rows-set t place rows
  entries-set t place (SetRanges ranges) these = (these, tt)
  entries-set None place (Ack range device rowid) these = tt
  entries-set (Some t) place (Ack range device rowid) these =
      maybe-first (is_above rowid (point_at t.points range device)) (Acked place range device rowid) tt
  entries-set None place (CloseRange range devices) these = tt
  entries-set (Some t) place (CloseRange range devices) these = maybe-none (nat_lt range t.cursor) (Closed place range) tt
  entries-set None place EmptyOut these = tt
  entries-set (Some t) place EmptyOut these = maybe-none t.emptied (Emptied place) tt
  entries-set None place (SetSync device rowid) these = tt
  entries-set (Some t) place (SetSync device rowid) these = maybe-first (is_above rowid (point_at t.syncs 0 device)) (Synced place device rowid) tt

  -- what a step leaves
  pub step-listed : (t : Option Tables) (place : Place) (change : ContChange) → AreShards (ranges_in change) → AreListed (list_of t)
      → AreListed (list_of (fold entered t (entries_for t place change)))
  step-listed t place change these are = listed-after t (entries_for t place change) (entries-set t place change these) are
