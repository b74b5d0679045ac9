-- Entries as a batch of a keeper's changes. (This project's own.)
use Rattle.std.specs.Prelude.{ℕ, ◌+◌, nat_lt, if◌then◌else◌, List, [], ◌∷◌, ◌++◌, find, length, Option, None, Some}
use Rattle.sw_keeper.specs.declared.batch.Change.{Change}
use Rattle.sw_keeper.specs.declared.batch.Change.TheVariants.{Times, PutRow, CutRow, SetRanges, SetCursor, SetPoint, SetSync, Empty}
use Rattle.sw_rows.specs.Rows.{Listed, find_named, fits, is_named}
use Rattle.sw_rows.specs.declared.numbered.Numbered.{Numbered}
use Rattle.sw_rows.specs.declared.row.Row.{Row}
use Rattle.sw_keeper.specs.declared.tables.Tables.{Tables}
use Rattle.sw_shard_range.specs.States.{all_in_state, with_state}
use Rattle.sw_shard_range.specs.declared.range.Range.{Range}
use Rattle.sw_sync.specs.Points.{PointList, is_above, point_at}
use Rattle.sw_container_steps.specs.Entries.{entered}
use Rattle.sw_container_steps.specs.declared.cont_entry.ContEntry.{ContEntry}
use Rattle.sw_container_steps.specs.declared.cont_entry.ContEntry.TheVariants.{Created, Removed, Merged, Ranged, Acked, Closed, Emptied, Synced}

abbrev pub cut : Option Numbered → List Change
cut None = []
cut (Some n) = CutRow n.rowid ∷ []

-- the row of its name goes and the row comes, under the next number
abbrev pub replacement : Listed → Row → List Change
replacement l row = cut (find (is_named row.name) l.list) ++ PutRow row (l.top + 1) ∷ []

-- the changes that merge a row: none where the present one counts as much
abbrev pub row_changes : Listed → Row → List Change
row_changes l row = if fits (find_named l.list row.name) row then replacement l row else []

-- ranges are set, and none is closed: none where there are ranges
abbrev pub ranging_changes : Option (List Range) → List Range → List Change
ranging_changes None ranges = SetRanges (all_in_state 20 ranges) ∷ SetCursor 0 ∷ []
ranging_changes (Some old) ranges = []

-- none where the number isn't above the one that is kept
abbrev pub acking_changes : PointList → ℕ → ℕ → ℕ → List Change
acking_changes points range device rowid = if is_above rowid (point_at points range device) then SetPoint range device rowid ∷ [] else []

-- none where no range is open
abbrev pub closing_changes : Option (List Range) → ℕ → List Change
closing_changes None cursor = []
closing_changes (Some ranges) cursor =
    if nat_lt cursor (length ranges) then SetRanges (with_state 30 cursor ranges) ∷ SetCursor (cursor + 1) ∷ [] else []

-- none where a range is open, or there is none
abbrev pub emptying_changes : Option (List Range) → ℕ → List Change
emptying_changes None cursor = []
emptying_changes (Some ranges) cursor = if nat_lt cursor (length ranges) then [] else SetRanges (all_in_state 40 ranges) ∷ Empty ∷ []

-- the changes that make an entry
abbrev pub changes_of : Option Tables → ContEntry → List Change
changes_of None (Created place time) = Times time None ∷ []
changes_of None (Removed place time) = []
changes_of None (Merged place row) = []
changes_of None (Ranged place ranges) = []
changes_of None (Acked place range device rowid) = []
changes_of None (Closed place range) = []
changes_of None (Emptied place) = []
changes_of None (Synced place device rowid) = []
changes_of (Some t) (Created place time) = Times time t.delete_time ∷ []
changes_of (Some t) (Removed place time) = Times t.put_time (Some time) ∷ []
changes_of (Some t) (Merged place row) = row_changes t.rows row
changes_of (Some t) (Ranged place ranges) = ranging_changes t.ranges ranges
changes_of (Some t) (Acked place range device rowid) = acking_changes t.points range device rowid
changes_of (Some t) (Closed place range) = closing_changes t.ranges t.cursor
changes_of (Some t) (Emptied place) = emptying_changes t.ranges t.cursor
changes_of (Some t) (Synced place device rowid) = SetSync device rowid ∷ []

-- the changes that make entries, one after the other
abbrev pub batch_for : Option Tables → List ContEntry → List Change
batch_for t [] = []
batch_for t (entry ∷ entries) = changes_of t entry ++ batch_for (entered t entry) entries
