-- What a step makes of a container, and what it is answered. (OpenStack Swift's container server. That a row of an account that begins
-- with `.` creates its container is Swift's auto-create; the answers are this project's own.)
use Rattle.std.specs.Prelude.{ℕ, zero, suc, Bool, true, false, not, ◌&&◌, ◌==◌, max, nat_lt, if◌then◌else◌, List}
use Rattle.std.specs.Prelude.{[], ◌∷◌, ◌++◌, find, length, Option, None, Some}
use Rattle.std.specs.Option.{option_map, option_map_or}
use Rattle.sw_hashpath.specs.declared.place.Place.{Place}
use Rattle.sw_rows.specs.Rows.{Listed, find_named, fits, merged}
use Rattle.sw_rows.specs.Sums.{count_of}
use Rattle.sw_rows.specs.declared.row.Row.{Row}
use Rattle.sw_shard_range.specs.declared.range.Range.{Range}
use Rattle.sw_keeper.specs.declared.tables.Tables.{Tables}
use Rattle.sw_sync.specs.Points.{PointList, greatest_point, is_above, point_at}
use Rattle.sw_container_steps.specs.Entries.{rows_of}
use Rattle.sw_container_steps.specs.Presence.{deletion, deletion_after, is_dotted, is_no_time, is_present}
use Rattle.sw_container_steps.specs.Serving.{first_served, is_of_range}
use Rattle.sw_container_steps.specs.declared.cont_answer.ContAnswer.{ContAnswer}
use Rattle.sw_container_steps.specs.declared.cont_answer.ContAnswer.TheVariants as answers
use Rattle.sw_container_steps.specs.declared.cont_change.ContChange.{ContChange}
use Rattle.sw_container_steps.specs.declared.cont_change.ContChange.TheVariants.{Create, Remove, MergeRow, MergeRows, SetRanges, Ack, CloseRange}
use Rattle.sw_container_steps.specs.declared.cont_change.ContChange.TheVariants.{EmptyOut, SetSync}
use Rattle.sw_container_steps.specs.declared.cont_entry.ContEntry.{ContEntry}
use Rattle.sw_container_steps.specs.declared.cont_entry.ContEntry.TheVariants.{Created, Removed, Merged, Ranged, Acked, Closed, Emptied, Synced}

-- ---- refusals

-- a creation that is earlier than a deletion
abbrev pub stale_creation : Option ℕ → ℕ → Option ContAnswer
stale_creation None time = None
stale_creation (Some gone) time = if nat_lt time gone then Some (answers.Stale gone) else None

abbrev pub creation_refusal : Option Tables → ℕ → Option ContAnswer
creation_refusal t time = stale_creation (deletion t) time

-- a deletion of what has so many live rows, first by these, then by its time
abbrev pub removal_refusal_over : ℕ → ℕ → ℕ → Option ContAnswer
removal_refusal_over zero put_time time = if nat_lt put_time time then None else Some (answers.Stale put_time)
removal_refusal_over (suc n) put_time time = Some (answers.NotEmpty (suc n))

-- what has shard ranges isn't deleted
abbrev pub removal_refusal_of : Option (List Range) → ℕ → ℕ → ℕ → Option ContAnswer
removal_refusal_of None count put_time time = removal_refusal_over count put_time time
removal_refusal_of (Some ranges) count put_time time = Some answers.HasRanges

abbrev pub removal_refusal : Option Tables → ℕ → Option ContAnswer
removal_refusal None time = Some answers.Absent
removal_refusal (Some t) time =
    if is_no_time (deletion_after t.put_time t.delete_time) then removal_refusal_of t.ranges (count_of t.rows.list) t.put_time time
    else Some answers.Absent

abbrev pub first_live : List Row → Option Row
first_live rows = find (λ row. not row.deleted) rows

-- the row that creates its container: where that is absent and its account begins with `.`, the first live one
abbrev pub creator : Option Tables → Place → List Row → Option Row
creator t place rows = if is_present t then None else if is_dotted place then first_live rows else None

abbrev pub is_a_row : Option Row → Bool
is_a_row None = false
is_a_row (Some row) = true

-- the first of the rows whose name is left to a shard
abbrev pub redirection : Option Tables → List Row → Option ContAnswer
redirection None rows = None
redirection (Some t) rows = option_map answers.Redirect (first_served t rows)

-- rows for a container that is absent, and that none of them creates; or rows one of which goes to a shard
abbrev pub merging_refusal : Option Tables → Place → List Row → Option ContAnswer
merging_refusal t place rows =
    if is_present t then redirection t rows else if is_a_row (creator t place rows) then None else Some answers.Absent

-- a sync point of a container that is absent
abbrev pub sync_refusal : Option Tables → Option ContAnswer
sync_refusal t = if is_present t then None else Some answers.Absent

-- ---- refusals of steps on ranges

-- of a container that is absent, and then this one
abbrev pub refusal_over : Option Tables → (Tables → Option ContAnswer) → Option ContAnswer
refusal_over None refusal = Some answers.Absent
refusal_over (Some t) refusal = if is_no_time (deletion_after t.put_time t.delete_time) then refusal t else Some answers.Absent

-- ranges are set once
abbrev pub ranging_refusal : Option (List Range) → Option ContAnswer
ranging_refusal None = None
ranging_refusal (Some ranges) = Some answers.HasRanges

-- of a container that has no ranges, and then this one
abbrev pub refusal_with : Option (List Range) → (List Range → Option ContAnswer) → Option ContAnswer
refusal_with None refusal = Some answers.NoRanges
refusal_with (Some ranges) refusal = refusal ranges

-- a device has a point of the range that isn't below this number
abbrev pub has_point : PointList → ℕ → ℕ → ℕ → Bool
has_point points range rowid device = option_map_or (λ kept. not (nat_lt kept rowid)) (point_at points range device) false

-- the first of these devices that has no point of the range, or one below the greatest
abbrev pub not_acked : PointList → ℕ → List ℕ → Option ℕ
not_acked points range devices = find (λ device. not (has_point points range (greatest_point points range) device)) devices

-- the first row of the range above its greatest point: in order of numbers it has the least one
abbrev pub later_row : Tables → List Range → ℕ → Option ℕ
later_row t ranges range = option_map (λ n. n.rowid) (find (is_of_range ranges range (greatest_point t.points range)) t.rows.list)

-- a device of the shard that hasn't acknowledged all rows that another one has, or a row that came later
abbrev pub unacked_refusal : Tables → List Range → ℕ → Option ℕ → Option ContAnswer
unacked_refusal t ranges range None = option_map answers.Later (later_row t ranges range)
unacked_refusal t ranges range (Some device) = Some (answers.NotAcked device)

-- a range that is closed stays so. One that isn't there, or before which another one is open, can't be closed
abbrev pub closing_refusal : Tables → List Range → ℕ → List ℕ → Option ContAnswer
closing_refusal t ranges range devices =
    if nat_lt range t.cursor then None
    else if (range == t.cursor) && nat_lt range (length ranges) then unacked_refusal t ranges range (not_acked t.points range devices)
    else Some (answers.StillOpen t.cursor)

-- rows are taken away only where no range is open
abbrev pub emptying_refusal : Tables → List Range → Option ContAnswer
emptying_refusal t ranges = if nat_lt t.cursor (length ranges) then Some (answers.StillOpen t.cursor) else None

-- how what stands refuses the step; none where the step is made
abbrev pub cont_refusal : Option Tables → Place → ContChange → Option ContAnswer
cont_refusal t place (Create time) = creation_refusal t time
cont_refusal t place (Remove time) = removal_refusal t time
cont_refusal t place (MergeRow row) = merging_refusal t place (row ∷ [])
cont_refusal t place (MergeRows rows) = merging_refusal t place rows
cont_refusal t place (SetRanges ranges) = refusal_over t (λ t. ranging_refusal t.ranges)
cont_refusal t place (Ack range device rowid) = refusal_over t (λ t. refusal_with t.ranges (λ ranges. None))
cont_refusal t place (CloseRange range devices) = refusal_over t (λ t. refusal_with t.ranges (λ ranges. closing_refusal t ranges range devices))
cont_refusal t place EmptyOut = refusal_over t (λ t. refusal_with t.ranges (λ ranges. emptying_refusal t ranges))
cont_refusal t place (SetSync device rowid) = sync_refusal t

-- ---- what a step that isn't refused enters

-- nothing where the put time doesn't rise
abbrev pub creation_entries : Option Tables → Place → ℕ → List ContEntry
creation_entries None place time = Created place time ∷ []
creation_entries (Some t) place time = if nat_lt t.put_time time then Created place time ∷ [] else []

-- those of the rows that are put in, each over those before it
abbrev pub merging_entries : Listed → Place → List Row → List ContEntry
merging_entries l place [] = []
merging_entries l place (row ∷ rows) =
    if fits (find_named l.list row.name) row then Merged place row ∷ merging_entries (merged l row) place rows else merging_entries (merged l row) place rows

-- the time at which a row creates its container: its own, or the delete time where that is later
abbrev pub creation_time : Option Tables → Row → ℕ
creation_time t row = max row.created_at (option_map_or (λ gone. gone) (deletion t) 0)

abbrev pub created_by : Option Tables → Place → Option Row → List ContEntry
created_by t place None = []
created_by t place (Some row) = Created place (creation_time t row) ∷ []

-- the creation, where there is one, and then the rows
abbrev pub rows_entries : Option Tables → Place → List Row → List ContEntry
rows_entries t place rows = created_by t place (creator t place rows) ++ merging_entries (rows_of t) place rows

-- nothing where the number isn't above the one that is kept. Sync points are kept for the first range, 0
abbrev pub sync_entries : Option Tables → Place → ℕ → ℕ → List ContEntry
sync_entries None place device rowid = []
sync_entries (Some t) place device rowid = if is_above rowid (point_at t.syncs 0 device) then Synced place device rowid ∷ [] else []

-- nothing where the number isn't above the one that is kept
abbrev pub acking_entries : Option Tables → Place → ℕ → ℕ → ℕ → List ContEntry
acking_entries None place range device rowid = []
acking_entries (Some t) place range device rowid =
    if is_above rowid (point_at t.points range device) then Acked place range device rowid ∷ [] else []

-- nothing where the range is closed
abbrev pub closing_entries : Option Tables → Place → ℕ → List ContEntry
closing_entries None place range = []
closing_entries (Some t) place range = if nat_lt range t.cursor then [] else Closed place range ∷ []

-- nothing where the rows were taken away
abbrev pub emptying_entries : Option Tables → Place → List ContEntry
emptying_entries None place = []
emptying_entries (Some t) place = if t.emptied then [] else Emptied place ∷ []

abbrev pub entries_for : Option Tables → Place → ContChange → List ContEntry
entries_for t place (Create time) = creation_entries t place time
entries_for t place (Remove time) = Removed place time ∷ []
entries_for t place (MergeRow row) = rows_entries t place (row ∷ [])
entries_for t place (MergeRows rows) = rows_entries t place rows
entries_for t place (SetRanges ranges) = Ranged place ranges ∷ []
entries_for t place (Ack range device rowid) = acking_entries t place range device rowid
entries_for t place (CloseRange range devices) = closing_entries t place range
entries_for t place EmptyOut = emptying_entries t place
entries_for t place (SetSync device rowid) = sync_entries t place device rowid

-- ---- answers

abbrev pub creation_answer : Bool → ℕ → ContAnswer
creation_answer true front = answers.There front
creation_answer false front = answers.New front

-- what a step that isn't refused is answered, with this front
abbrev pub cont_made_answer : Option Tables → ContChange → ℕ → ContAnswer
cont_made_answer t (Create time) front = creation_answer (is_present t) front
cont_made_answer t (Remove time) front = answers.Done front
cont_made_answer t (MergeRow row) front = answers.Done front
cont_made_answer t (MergeRows rows) front = answers.Done front
cont_made_answer t (SetRanges ranges) front = answers.Done front
cont_made_answer t (Ack range device rowid) front = answers.Done front
cont_made_answer t (CloseRange range devices) front = answers.Done front
cont_made_answer t EmptyOut front = answers.Done front
cont_made_answer t (SetSync device rowid) front = answers.Done front

-- ---- what comes to nodes

-- whether a step isn't one on shard ranges. Those are made by passes alone: no client asks for one
abbrev pub is_plain : ContChange → Bool
is_plain (Create time) = true
is_plain (Remove time) = true
is_plain (MergeRow row) = true
is_plain (MergeRows rows) = true
is_plain (SetRanges ranges) = false
is_plain (Ack range device rowid) = false
is_plain (CloseRange range devices) = false
is_plain EmptyOut = false
is_plain (SetSync device rowid) = true
