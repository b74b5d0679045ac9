-- Entries of the journal of a container lock, and what they leave. (This project's own.)
use Rattle.std.specs.Prelude.{ℕ, ◌+◌, Bool, true, false, ◌&&◌, if◌then◌else◌, nat_lt, List, length, count_by, Option, None, Some}
use Rattle.std.specs.List.{filter, fold}
use Rattle.std.specs.Str.{bytes_eq}
use Rattle.sw_hashpath.specs.declared.place.Place.{Place}
use Rattle.sw_keeper.specs.Changes.{begun}
use Rattle.sw_rows.specs.Rows.{Listed, merged, no_rows, no_rows_at}
use Rattle.sw_shard_range.specs.States.{all_in_state, with_state}
use Rattle.sw_shard_range.specs.declared.range.Range.{Range}
use Rattle.sw_keeper.specs.declared.tables.Tables.{Tables}
use Rattle.sw_sync.specs.Points.{raised, with_point}
use Rattle.sw_container_steps.specs.declared.cont_entry.ContEntry.{ContEntry}
use Rattle.sw_container_steps.specs.declared.cont_entry.ContEntry.TheVariants.{Created, Removed, Merged, Ranged, Acked, Closed, Emptied, Synced}

-- the rows of a container, none where it was never created
abbrev pub rows_of : Option Tables → Listed
rows_of None = no_rows
rows_of (Some t) = t.rows

-- the greatest number (ROWID) given out
abbrev pub top_of : Option Tables → ℕ
top_of t = (rows_of t).top

-- ---- what entries leave. What ranges have entered isn't undone, whatever entries come: a list of ranges is set once, a range is closed where there is one to
-- close, rows go only once all ranges are closed, and a point only rises

-- the ranges are set where there are none, each CREATED, and none of them is closed
abbrev pub ranged : Tables → Option (List Range) → List Range → Tables
ranged t None ranges = record t { ranges = Some (all_in_state 20 ranges); cursor = 0 }
ranged t (Some old) ranges = t

-- the first range that isn't closed is, and then it is CLEAVED
abbrev pub closed : Tables → Option (List Range) → Tables
closed t None = t
closed t (Some ranges) = if nat_lt t.cursor (length ranges) then record t { ranges = Some (with_state 30 t.cursor ranges); cursor = t.cursor + 1 } else t

-- the rows are gone where all ranges are closed, which then are ACTIVE
abbrev pub emptied : Tables → Option (List Range) → Tables
emptied t None = t
emptied t (Some ranges) =
    if nat_lt t.cursor (length ranges) then t else record t { rows = no_rows_at t.rows.top; ranges = Some (all_in_state 40 ranges); emptied = true }

-- what one entry leaves. Where nothing is held only a creation leaves anything
abbrev pub entered : Option Tables → ContEntry → Option Tables
entered None (Created place time) = Some (begun time None)
entered None (Removed place time) = None
entered None (Merged place row) = None
entered None (Ranged place ranges) = None
entered None (Acked place range device rowid) = None
entered None (Closed place range) = None
entered None (Emptied place) = None
entered None (Synced place device rowid) = None
entered (Some t) (Created place time) = Some (record t { put_time = time })
entered (Some t) (Removed place time) = Some (record t { delete_time = Some time })
entered (Some t) (Merged place row) = Some (record t { rows = merged t.rows row })
entered (Some t) (Ranged place ranges) = Some (ranged t t.ranges ranges)
entered (Some t) (Acked place range device rowid) = Some (record t { points = raised t.points range device rowid })
entered (Some t) (Closed place range) = Some (closed t t.ranges)
entered (Some t) (Emptied place) = Some (emptied t t.ranges)
entered (Some t) (Synced place device rowid) = Some (record t { syncs = with_point t.syncs 0 device rowid })

-- what entries leave, one after the other
abbrev pub all_entered : Option Tables → List ContEntry → Option Tables
all_entered t entries = fold entered t entries

-- ---- entries of one place

abbrev pub place_in : ContEntry → Place
place_in (Created place time) = place
place_in (Removed place time) = place
place_in (Merged place row) = place
place_in (Ranged place ranges) = place
place_in (Acked place range device rowid) = place
place_in (Closed place range) = place
place_in (Emptied place) = place
place_in (Synced place device rowid) = place

-- whether two places are one, in all that they have
abbrev pub is_same_place : Place → Place → Bool
is_same_place a b = bytes_eq a.hash b.hash && (bytes_eq a.account b.account && bytes_eq a.container b.container)

-- the entries of a place, in order
abbrev pub about : Place → List ContEntry → List ContEntry
about place entries = filter (λ entry. is_same_place (place_in entry) place) entries

-- ---- how many rows entries put in

abbrev pub is_merge : ContEntry → Bool
is_merge (Created place time) = false
is_merge (Removed place time) = false
is_merge (Merged place row) = true
is_merge (Ranged place ranges) = false
is_merge (Acked place range device rowid) = false
is_merge (Closed place range) = false
is_merge (Emptied place) = false
is_merge (Synced place device rowid) = false

abbrev pub row_count : ContEntry → ℕ
row_count entry = if is_merge entry then 1 else 0

abbrev pub rows_in : List ContEntry → ℕ
rows_in entries = count_by is_merge entries
