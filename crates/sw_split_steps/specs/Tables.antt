-- The tables of a container as one of a ledger, and the entries of its steps as changes of that. (This project's own.)
use Rattle.std.specs.Prelude.{◌≡◌, ⊤, ℕ, ◌≤◌, false, List, [], ◌∷◌, length, map, unwrap_or, Option, Some}
use Rattle.std.specs.Option.{option_map}
use Rattle.sw_container_steps.specs.Entries.{entered}
use Rattle.sw_container_steps.specs.Presence.{is_present}
use Rattle.sw_container_steps.specs.Serving.{IsUnsplit}
use Rattle.sw_container_steps.specs.declared.cont_change.ContChange.{ContChange}
use Rattle.sw_container_steps.specs.declared.cont_change.ContChange.TheVariants.{Create, Remove, MergeRow, MergeRows, SetRanges}
use Rattle.sw_container_steps.specs.declared.cont_change.ContChange.TheVariants.{Ack, CloseRange, EmptyOut, SetSync}
use Rattle.sw_container_steps.specs.declared.cont_entry.ContEntry.{ContEntry}
use Rattle.sw_container_steps.specs.declared.cont_entry.ContEntry.TheVariants.{Created, Removed, Merged, Ranged, Acked, Closed, Emptied, Synced}
use Rattle.sw_keeper.specs.declared.tables.Tables.{Tables}
use Rattle.sw_shard_range.specs.declared.range.Range.{Range}
use Rattle.sw_shard_laws.specs.Changes.{Change, Tests, left}
use Rattle.sw_shard_laws.specs.Changes.Change.{Creates, Merges, Splits, Acks, Syncs, Closes, Empties}
use Rattle.sw_shard_laws.specs.Ledger.{Table, Way, fresh, way_of}

-- ---- tables

abbrev pub ways_of : List Range → List Way
ways_of ranges = map way_of ranges

-- the times of a container are no part of its table, nor is how far each range has come
abbrev pub table_of : Tables → Table
table_of t = record {
  rows = t.rows;
  ways = option_map ways_of t.ranges;
  cursor = t.cursor;
  points = t.points;
  syncs = t.syncs;
  emptied = t.emptied;
}

abbrev pub tables_of : Option Tables → Option Table
tables_of t = option_map table_of t

-- what a container that was never created has is what one has that was just created
abbrev pub standing : Option Tables → Table
standing t = unwrap_or (tables_of t) fresh

-- an absent container has no ranges, and no more of them are closed than there are
pub record IsInOrder (t : Option Tables) : Type 0 where
  pub whole : is_present t ≡ false → IsUnsplit t
  pub cursor : (standing t).cursor ≤ length (unwrap_or (standing t).ways [])

-- ---- changes

-- the devices of the shard of a range that is closed
abbrev pub devices_in : ContChange → List ℕ
devices_in (Create time) = []
devices_in (Remove time) = []
devices_in (MergeRow row) = []
devices_in (MergeRows rows) = []
devices_in (SetRanges ranges) = []
devices_in (Ack range device rowid) = []
devices_in (CloseRange range devices) = devices
devices_in EmptyOut = []
devices_in (SetSync device rowid) = []

-- the change that an entry of this step is. A deletion changes the times alone, as a creation does of what was created before
abbrev pub change_in : ContChange → ContEntry → Change
change_in change (Created place time) = Creates
change_in change (Removed place time) = Creates
change_in change (Merged place row) = Merges row
change_in change (Ranged place ranges) = Splits (ways_of ranges)
change_in change (Acked place range device rowid) = Acks range device rowid
change_in change (Closed place range) = Closes (devices_in change)
change_in change (Emptied place) = Empties
change_in change (Synced place device rowid) = Syncs device rowid

-- the entries, one after the other: each passes the tests of its change, and leaves a container whose table is what the change leaves
abbrev pub IsPassed : ContChange → Option Tables → List ContEntry → Type 0
IsPassed change t [] = ⊤
IsPassed change t (entry ∷ entries) =
    Tests (standing t) (change_in change entry)
    × (tables_of (entered t entry) ≡ Some (left (standing t) (change_in change entry)))
    × IsPassed change (entered t entry) entries
