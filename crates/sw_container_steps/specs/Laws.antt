-- What is promised of the definitions on steps at containers. (This project's own.)
use Rattle.std.specs.Prelude.{◌≡◌, ◌≢◌, ℕ, true, false, is_some, List, [], ◌∷◌, fold, Option, None, Some, IsSome}
use Rattle.sw_hashpath.specs.declared.place.Place.{Place}
use Rattle.sw_rows.specs.Rows.{merged}
use Rattle.sw_rows.specs.declared.row.Row.{Row}
use Rattle.sw_keeper.specs.declared.tables.Tables.{Tables}
use Rattle.sw_step.specs.Rules.{AreRules}
use Rattle.sw_container_steps.specs.Entries.{about, all_entered, rows_of}
use Rattle.sw_container_steps.specs.Presence.{is_present}
use Rattle.sw_container_steps.specs.Rules.{cont_rules}
use Rattle.sw_container_steps.specs.Steps.{cont_refusal, entries_for}
use Rattle.sw_container_steps.specs.declared.cont_change.ContChange.{ContChange}
use Rattle.sw_container_steps.specs.declared.cont_change.ContChange.TheVariants.{Create, Remove, MergeRow, MergeRows}
use Rattle.sw_container_steps.specs.declared.cont_entry.ContEntry.{ContEntry}
use Rattle.sw_container_steps.specs.declared.cont_entry.ContEntry.TheVariants.{Created, Removed, Merged, Ranged, Acked, Closed, Emptied, Synced}
use Rattle.sw_container_steps.specs.declared.sign.Sign.{Sign}
use Rattle.sw_sync.specs.Points.{point_at}

abbrev pub ContainersAreRules : Type 0
ContainersAreRules = AreRules cont_rules

-- what a step that isn't refused leaves
abbrev pub left : Option Tables → Place → ContChange → Option Tables
left t place change = all_entered t (entries_for t place change)

-- a container whose creation isn't refused is there, and has the rows that it had
abbrev pub CreatedIsThere : Type 0
CreatedIsThere = (t : Option Tables) (place : Place) (time : ℕ) → cont_refusal t place (Create time) ≡ None
    → (is_present (left t place (Create time)) ≡ true) × (rows_of (left t place (Create time)) ≡ rows_of t)

-- a container whose deletion isn't refused is absent, and its rows stay
abbrev pub RemovedIsAbsent : Type 0
RemovedIsAbsent = (t : Option Tables) (place : Place) (time : ℕ) → cont_refusal t place (Remove time) ≡ None
    → (is_present (left t place (Remove time)) ≡ false) × (rows_of (left t place (Remove time)) ≡ rows_of t)

-- rows that aren't refused are merged one by one, in their order, and the container is there
abbrev pub RowsAreMerged : Type 0
RowsAreMerged = (t : Option Tables) (place : Place) (rows : List Row) → cont_refusal t place (MergeRows rows) ≡ None
    → (is_present (left t place (MergeRows rows)) ≡ true) × (rows_of (left t place (MergeRows rows)) ≡ fold merged (rows_of t) rows)

-- one row is merged as a list of it is
abbrev pub RowIsMerged : Type 0
RowIsMerged = (t : Option Tables) (place : Place) (row : Row) → cont_refusal t place (MergeRow row) ≡ None
    → (is_present (left t place (MergeRow row)) ≡ true) × (rows_of (left t place (MergeRow row)) ≡ merged (rows_of t) row)

-- all entries of a step are of its place
abbrev pub EntriesAreOfThePlace : Type 0
EntriesAreOfThePlace = (t : Option Tables) (place : Place) (change : ContChange)
    → (about place (entries_for t place change) ≡ entries_for t place change)
    × ((other : Place) → other ≢ place → about other (entries_for t place change) ≡ [])

-- what a step that isn't refused leaves is held; so a keeper takes its batch
abbrev pub StepsHold : Type 0
StepsHold = (t : Option Tables) (place : Place) (change : ContChange) → cont_refusal t place change ≡ None → IsSome (left t place change)

-- what of tables the first of these entries raises, beside what every sign has
abbrev pub raised_by : List ContEntry → Tables → Option ℕ
raised_by [] t = None
raised_by (Created place time ∷ entries) t = None
raised_by (Removed place time ∷ entries) t = None
raised_by (Merged place row ∷ entries) t = None
raised_by (Ranged place ranges ∷ entries) t = None
raised_by (Acked place range device rowid ∷ entries) t = point_at t.points range device
raised_by (Closed place range ∷ entries) t = None
raised_by (Emptied place ∷ entries) t = None
raised_by (Synced place device rowid ∷ entries) t = point_at t.syncs 0 device

-- what entries are seen by: the times of the container, the greatest number given out, how far it is split, and the point that they raise
abbrev pub sign_of : List ContEntry → Option Tables → Option Sign
sign_of entries None = None
sign_of entries (Some t) = Some (record {
  put_time = t.put_time;
  delete_time = t.delete_time;
  top = t.rows.top;
  is_ranged = is_some t.ranges;
  cursor = t.cursor;
  emptied = t.emptied;
  raised = raised_by entries t;
})

-- a step that isn't refused and has entries changes these; so they tell whether it was made
abbrev pub EntriesAreSeen : Type 0
EntriesAreSeen = (t : Option Tables) (place : Place) (change : ContChange) → cont_refusal t place change ≡ None
    → entries_for t place change ≢ [] → sign_of (entries_for t place change) (left t place change) ≢ sign_of (entries_for t place change) t
