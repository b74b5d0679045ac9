-- The lists of ranges that a step at a container leaves are all names, each once, where the list that stood, and the one that came, are.
use Rattle.std.proofs.Common.{◌≡◌, ◌∙◌, ◌+◌, zero, suc, nat_lt, Bool, true, false, cond, List, [], ◌∷◌, ◌++◌, length, Option, None, Some, ℕ, refl, ap}
use Rattle.std.specs.Bool.{⊤}
use Rattle.std.specs.List.{fold}
use Rattle.sw_container_steps.specs.Entries.{closed, emptied, entered, ranged, rows_of}
use Rattle.sw_container_steps.specs.Steps.{created_by, creator, entries_for, merging_entries, rows_entries}
use Rattle.sw_container_steps.specs.declared.cont_change.ContChange.{ContChange}
use Rattle.sw_container_steps.specs.declared.cont_change.ContChange.TheVariants.{Create, Remove, MergeRow, MergeRows, SetRanges, Ack, CloseRange}
use Rattle.sw_container_steps.specs.declared.cont_change.ContChange.TheVariants.{EmptyOut, SetSync}
use Rattle.sw_container_steps.specs.declared.cont_entry.ContEntry.{ContEntry}
use Rattle.sw_container_steps.specs.declared.cont_entry.ContEntry.TheVariants.{Created, Removed, Merged, Ranged, Acked, Closed, Emptied, Synced}
use Rattle.sw_hashpath.specs.declared.place.Place.{Place}
use Rattle.sw_keeper.specs.declared.tables.Tables.{Tables}
use Rattle.sw_origin_laws.proofs.Lists.{list_of}
use Rattle.sw_rows.specs.Rows.{Listed, find_named, fits, merged, no_rows_at}
use Rattle.sw_rows.specs.declared.row.Row.{Row}
use Rattle.sw_shard_range.specs.Laws.{AreTiled}
use Rattle.sw_shard_range.specs.Ranges.{fault_from, fits_inside}
use Rattle.sw_shard_range.specs.States.{all_in_state, with_state}
use Rattle.sw_shard_range.specs.declared.range.Range.{Range}
use Rattle.sw_sync.specs.Points.{is_above, point_at}

-- a list is such, where there is one
abbrev pub IsTiledList : Option (List Range) → Type 0
IsTiledList None = ⊤
IsTiledList (Some ranges) = AreTiled ranges

-- the list that a step sets is such, where it sets one
abbrev pub SetsTiled : ContChange → Type 0
SetsTiled (Create time) = ⊤
SetsTiled (Remove time) = ⊤
SetsTiled (MergeRow row) = ⊤
SetsTiled (MergeRows rows) = ⊤
SetsTiled (SetRanges ranges) = AreTiled ranges
SetsTiled (Ack range device rowid) = ⊤
SetsTiled (CloseRange range devices) = ⊤
SetsTiled EmptyOut = ⊤
SetsTiled (SetSync device rowid) = ⊤

-- ---- how far ranges have come doesn't matter

-- what a fault behind this bound is where the first range can stand there, and others follow
abbrev behind : List ℕ → ℕ → Range → Option ℕ → Option ℕ
behind bound at r rest = cond (fits_inside bound r) rest (Some at)

fault-all : (state : ℕ) (bound : List ℕ) (at : ℕ) (ranges : List Range) → fault_from bound at (all_in_state state ranges) ≡ fault_from bound at ranges
fault-all state bound at [] = refl
fault-all state bound at (r ∷ []) = refl
fault-all state bound at (r ∷ s ∷ rs) = ap (behind bound at r) (fault-all state r.upper (at + 1) (s ∷ rs))

fault-one : (state index : ℕ) (bound : List ℕ) (at : ℕ) (ranges : List Range)
    → fault_from bound at (with_state state index ranges) ≡ fault_from bound at ranges
fault-one state index bound at [] = refl
fault-one state zero bound at (r ∷ []) = refl
fault-one state zero bound at (r ∷ s ∷ rs) = refl
fault-one state (suc index) bound at (r ∷ []) = refl
fault-one state (suc zero) bound at (r ∷ s ∷ rs) = ap (behind bound at r) (fault-one state zero r.upper (at + 1) (s ∷ rs))
fault-one state (suc (suc index)) bound at (r ∷ s ∷ rs) = ap (behind bound at r) (fault-one state (suc index) r.upper (at + 1) (s ∷ rs))

all-tiled : (state : ℕ) (ranges : List Range) → AreTiled ranges → AreTiled (all_in_state state ranges)
all-tiled state ranges are = fault-all state [] 0 ranges ∙ are

one-tiled : (state index : ℕ) (ranges : List Range) → AreTiled ranges → AreTiled (with_state state index ranges)
one-tiled state index ranges are = fault-one state index [] 0 ranges ∙ are

-- ---- entries

-- the list that an entry sets, where it sets one, is such
abbrev SetsOnly : ContEntry → Type 0
SetsOnly (Created place time) = ⊤
SetsOnly (Removed place time) = ⊤
SetsOnly (Merged place row) = ⊤
SetsOnly (Ranged place ranges) = AreTiled ranges
SetsOnly (Acked place range device rowid) = ⊤
SetsOnly (Closed place range) = ⊤
SetsOnly (Emptied place) = ⊤
SetsOnly (Synced place device rowid) = ⊤

abbrev AllSetOnly : List ContEntry → Type 0
AllSetOnly [] = ⊤
AllSetOnly (e ∷ es) = SetsOnly e × AllSetOnly es

tiled-ranged : (t : Tables) (o : Option (List Range)) (ranges : List Range) → AreTiled ranges → IsTiledList t.ranges → IsTiledList (ranged t o ranges).ranges
tiled-ranged t None ranges these are = all-tiled 20 ranges these
tiled-ranged t (Some old) ranges these are = are

tiled-closed : (t : Tables) (o : Option (List Range)) → IsTiledList o → IsTiledList t.ranges → IsTiledList (closed t o).ranges
tiled-closed t None old are = are
tiled-closed t (Some ranges) old are = by (nat_lt t.cursor (length ranges))
  where
    by : (b : Bool) → IsTiledList (cond b (record t { ranges = Some (with_state 30 t.cursor ranges); cursor = t.cursor + 1 }) t).ranges
    by true = one-tiled 30 t.cursor ranges old
    by false = are

tiled-emptied : (t : Tables) (o : Option (List Range)) → IsTiledList o → IsTiledList t.ranges → IsTiledList (emptied t o).ranges
tiled-emptied t None old are = are
tiled-emptied t (Some ranges) old are = by (nat_lt t.cursor (length ranges))
  where
    by : (b : Bool)
        → IsTiledList (cond b t (record t { rows = no_rows_at t.rows.top; ranges = Some (all_in_state 40 ranges); emptied = true })).ranges
    by true = are
    by false = all-tiled 40 ranges old

tiled-entered : (t : Option Tables) (e : ContEntry) → SetsOnly e → IsTiledList (list_of t) → IsTiledList (list_of (entered t e))
tiled-entered None (Created place time) this are = tt
tiled-entered None (Removed place time) this are = tt
tiled-entered None (Merged place row) this are = tt
tiled-entered None (Ranged place ranges) this are = tt
tiled-entered None (Acked place range device rowid) this are = tt
tiled-entered None (Closed place range) this are = tt
tiled-entered None (Emptied place) this are = tt
tiled-entered None (Synced place device rowid) this are = tt
tiled-entered (Some t) (Created place time) this are = are
tiled-entered (Some t) (Removed place time) this are = are
tiled-entered (Some t) (Merged place row) this are = are
tiled-entered (Some t) (Ranged place ranges) this are = tiled-ranged t t.ranges ranges this are
tiled-entered (Some t) (Acked place range device rowid) this are = are
tiled-entered (Some t) (Closed place range) this are = tiled-closed t t.ranges are are
tiled-entered (Some t) (Emptied place) this are = tiled-emptied t t.ranges are are
tiled-entered (Some t) (Synced place device rowid) this are = are

tiled-after : (t : Option Tables) (es : List ContEntry) → AllSetOnly es → IsTiledList (list_of t) → IsTiledList (list_of (fold entered t es))
tiled-after t [] these are = are
tiled-after t (e ∷ es) these are = tiled-after (entered t e) es these.1 (tiled-entered t e these.0 are)

-- ---- those of a step

set-append : (xs ys : List ContEntry) → AllSetOnly xs → AllSetOnly ys → AllSetOnly (xs ++ ys)
set-append [] ys these those = those
set-append (x ∷ xs) ys these those = (these.0, set-append xs ys these.1 those)

merging-sets : (l : Listed) (place : Place) (rows : List Row) → AllSetOnly (merging_entries l place rows)
merging-sets l place [] = tt
merging-sets l place (row ∷ rows) = by (fits (find_named l.list row.name) row) (merging-sets (merged l row) place rows)
  where
    by : (b : Bool) → AllSetOnly (merging_entries (merged l row) place rows)
        → AllSetOnly (cond b (Merged place row ∷ merging_entries (merged l row) place rows) (merging_entries (merged l row) place rows))
    by true rest = (tt, rest)
    by false rest = rest

created-sets : (t : Option Tables) (place : Place) (row : Option Row) → AllSetOnly (created_by t place row)
created-sets t place None = tt
created-sets t place (Some row) = (tt, tt)

rows-set : (t : Option Tables) (place : Place) (rows : List Row) → AllSetOnly (rows_entries t place rows)
rows-set t place rows =
    set-append (created_by t place (creator t place rows)) (merging_entries (rows_of t) place rows) (created-sets t place (creator t place rows))
    (merging-sets (rows_of t) place rows)

-- an entry of no list, or none
maybe-first : (b : Bool) (e : ContEntry) → SetsOnly e → AllSetOnly (cond b (e ∷ []) [])
maybe-first true e this = (this, tt)
maybe-first false e this = tt

maybe-none : (b : Bool) (e : ContEntry) → SetsOnly e → AllSetOnly (cond b [] (e ∷ []))
maybe-none true e this = tt
maybe-none false e this = (this, tt)

entries-set : (t : Option Tables) (place : Place) (change : ContChange) → SetsTiled change → AllSetOnly (entries_for t place change)
entries-set None place (Create time) this = (tt, tt)
entries-set (Some t) place (Create time) this = maybe-first (nat_lt t.put_time time) (Created place time) tt
entries-set t place (Remove time) this = (tt, tt)
entries-set t place (MergeRow row) this = rows-set t place (row ∷ [])
entries-set t place (MergeRows rows) this = rows-set t place rows
entries-set t place (SetRanges ranges) this = (this, tt)
entries-set None place (Ack range device rowid) this = tt
entries-set (Some t) place (Ack range device rowid) this =
    maybe-first (is_above rowid (point_at t.points range device)) (Acked place range device rowid) tt
entries-set None place (CloseRange range devices) this = tt
entries-set (Some t) place (CloseRange range devices) this = maybe-none (nat_lt range t.cursor) (Closed place range) tt
entries-set None place EmptyOut this = tt
entries-set (Some t) place EmptyOut this = maybe-none t.emptied (Emptied place) tt
entries-set None place (SetSync device rowid) this = tt
entries-set (Some t) place (SetSync device rowid) this = maybe-first (is_above rowid (point_at t.syncs 0 device)) (Synced place device rowid) tt

-- what a step leaves
pub step-tiled : (t : Option Tables) (place : Place) (change : ContChange) → SetsTiled change → IsTiledList (list_of t)
    → IsTiledList (list_of (fold entered t (entries_for t place change)))
step-tiled t place change this are = tiled-after t (entries_for t place change) (entries-set t place change this) are
