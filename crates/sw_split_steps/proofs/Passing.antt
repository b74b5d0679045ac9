-- Each step that isn't refused is changes that pass the tests of a ledger.
use Rattle.std.proofs.Common.{◌≡◌, ℕ, ◌+◌, nat_lt, Bool, true, false, cond, List, [], ◌∷◌, ◌++◌, length, Option, None, Some, refl, sym, ◌∙◌, ap, subst, arith}
use Rattle.std.proofs.lemmas.Bool.{ltb-false}
use Rattle.std.specs.Option.{IsSome, option_map}
use Rattle.sw_container_steps.proofs.Over.{merged-not}
use Rattle.sw_container_steps.specs.Entries.{closed, emptied, ranged, rows_of}
use Rattle.sw_container_steps.specs.Presence.{is_dotted, is_present}
use Rattle.sw_container_steps.specs.Steps.{acking_entries, closing_entries, closing_refusal, created_by, creation_time, creator}
use Rattle.sw_container_steps.specs.Steps.{emptying_entries, emptying_refusal, entries_for, first_live, is_a_row, merging_entries, merging_refusal}
use Rattle.sw_container_steps.specs.Steps.{ranging_refusal, redirection, refusal_with, rows_entries}
use Rattle.sw_container_steps.specs.declared.cont_answer.ContAnswer.TheVariants as answers
use Rattle.sw_container_steps.specs.declared.cont_change.ContChange.{ContChange}
use Rattle.sw_container_steps.specs.declared.cont_change.ContChange.TheVariants.{Create, Remove, MergeRow, MergeRows, SetRanges}
use Rattle.sw_container_steps.specs.declared.cont_change.ContChange.TheVariants.{Ack, CloseRange, EmptyOut, SetSync}
use Rattle.sw_container_steps.specs.declared.cont_entry.ContEntry.TheVariants.{Created, Merged, Ranged, Acked, Closed, Emptied, Synced}
use Rattle.sw_hashpath.specs.declared.place.Place.{Place}
use Rattle.sw_keeper.specs.Changes.{begun}
use Rattle.sw_keeper.specs.declared.tables.Tables.{Tables}
use Rattle.sw_rows.specs.Rows.{Listed, find_named, fits, merged, no_rows_at}
use Rattle.sw_rows.specs.declared.row.Row.{Row}
use Rattle.sw_shard_laws.specs.Changes.{Tests, left}
use Rattle.sw_shard_laws.specs.Changes.Change.{Empties}
use Rattle.sw_shard_laws.specs.Ledger.{Way}
use Rattle.sw_shard_range.specs.States.{all_in_state, with_state}
use Rattle.sw_shard_range.specs.declared.range.Range.{Range}
use Rattle.sw_sync.specs.Points.{is_above, point_at, with_point}
use Rattle.sw_split_steps.proofs.Closing.{can-close}
use Rattle.sw_split_steps.proofs.Refusing.{AreOwn, IsClosing, closing-none, emptying-none, over-none, ranging-none, redirection-own, unsplit-own, with-none}
use Rattle.sw_split_steps.proofs.Ways.{length-ways, served-same, ways-all, ways-with}
use Rattle.sw_split_steps.specs.Laws.{StepsAreChanges}
use Rattle.sw_split_steps.specs.Tables.{IsInOrder, IsPassed, table_of, ways_of}

-- ---- rows

-- rows whose names are the container's own are merged one by one
merging-passed : (change : ContChange) (t : Tables) (place : Place) (rows : List Row) → AreOwn t.ranges t.cursor rows
    → IsPassed change (Some t) (merging_entries t.rows place rows)
merging-passed change t place [] own = tt
merging-passed change t place (row ∷ rows) own =
    by (fits (find_named t.rows.list row.name) row) refl (merging-passed change (record t { rows = merged t.rows row }) place rows own.1)
    (merging-passed change t place rows own.1)
  where
    by : (b : Bool) → fits (find_named t.rows.list row.name) row ≡ b
        → IsPassed change (Some (record t { rows = merged t.rows row })) (merging_entries (merged t.rows row) place rows)
        → IsPassed change (Some t) (merging_entries t.rows place rows)
        → IsPassed change (Some t) (cond b (Merged place row ∷ merging_entries (merged t.rows row) place rows) (merging_entries (merged t.rows row) place rows))
    by true is more same = (sym (served-same t.ranges t.cursor row.name) ∙ own.0, refl, more)
    by false is more same =
        subst (λ (l : Listed). IsPassed change (Some t) (merging_entries l place rows)) (sym (merged-not t.rows row is)) same

-- the first row that creates an absent container is put in over what stood
created-passed : (change : ContChange) (t : Option Tables) (place : Place) (time : ℕ) (rows : List Row) → IsInOrder t → is_present t ≡ false
    → IsPassed change t (Created place time ∷ merging_entries (rows_of t) place rows)
created-passed change None place time rows order absent =
    (tt, refl, merging-passed change (begun time None) place rows (unsplit-own None 0 rows refl))
created-passed change (Some t) place time rows order absent =
    (tt, refl, merging-passed change (record t { put_time = time }) place rows (unsplit-own t.ranges t.cursor rows (order.whole absent)))

present-passed : (change : ContChange) (t : Option Tables) (place : Place) (rows : List Row) → is_present t ≡ true → redirection t rows ≡ None
    → IsPassed change t (merging_entries (rows_of t) place rows)
present-passed change None place rows is allowed = cc
present-passed change (Some t) place rows is allowed = merging-passed change t place rows (redirection-own t rows allowed)

rows-passed : (change : ContChange) (t : Option Tables) (place : Place) (rows : List Row) → IsInOrder t → merging_refusal t place rows ≡ None
    → IsPassed change t (rows_entries t place rows)
rows-passed change t place rows order allowed = by (is_present t) refl allowed
  where
    absent : (o : Option Row) → is_present t ≡ false → cond (is_a_row o) None (Some answers.Absent) ≡ None
        → IsPassed change t (created_by t place o ++ merging_entries (rows_of t) place rows)
    absent None is allowed = cc
    absent (Some row) is allowed = created-passed change t place (creation_time t row) rows order is

    by : (b : Bool) → is_present t ≡ b
        → cond b (redirection t rows) (cond (is_a_row (creator t place rows)) None (Some answers.Absent)) ≡ None
        → IsPassed change t (created_by t place (creator t place rows) ++ merging_entries (rows_of t) place rows)
    by true is allowed =
        let none : creator t place rows ≡ None = ap (λ (b : Bool). cond b None (cond (is_dotted place) (first_live rows) None)) is in
        subst (λ (o : Option Row). IsPassed change t (created_by t place o ++ merging_entries (rows_of t) place rows)) (sym none)
        (present-passed change t place rows is allowed)
    by false is allowed = absent (creator t place rows) is allowed

-- ---- steps on ranges

ranging-passed : (change : ContChange) (t : Tables) (place : Place) (rs : List Range) → t.ranges ≡ None
    → IsPassed change (Some t) (Ranged place rs ∷ [])
ranging-passed change t place rs none = (
  ap (λ (o : Option (List Range)). option_map ways_of o) none,
  ap (λ (o : Option (List Range)). Some (table_of (ranged t o rs))) none
      ∙ ap (λ (ws : List Way). Some (record (table_of t) { ways = Some ws; cursor = 0 })) (ways-all 20 rs),
  tt,
)

acking-passed : (change : ContChange) (t : Tables) (place : Place) (range device rowid : ℕ) (rs : List Range) → t.ranges ≡ Some rs
    → IsPassed change (Some t) (acking_entries (Some t) place range device rowid)
acking-passed change t place range device rowid rs split = by (is_above rowid (point_at t.points range device))
  where
    some : IsSome (option_map ways_of t.ranges)
    some = subst (λ (o : Option (List Range)). IsSome (option_map ways_of o)) (sym split) refl

    by : (b : Bool) → IsPassed change (Some t) (cond b (Acked place range device rowid ∷ []) [])
    by true = (some, refl, tt)
    by false = tt

closing-passed : (t : Tables) (place : Place) (range : ℕ) (devices : List ℕ) (rs : List Range) → t.ranges ≡ Some rs
    → closing_refusal t rs range devices ≡ None
    → IsPassed (CloseRange range devices) (Some t) (closing_entries (Some t) place range)
closing-passed t place range devices rs split allowed = by (nat_lt range t.cursor) refl
  where
    leaves : IsClosing t rs devices → Some (table_of (closed t t.ranges)) ≡ Some (record (table_of t) { cursor = t.cursor + 1 })
    leaves closing =
        ap (λ (o : Option (List Range)). Some (table_of (closed t o))) split
        ∙ ap (λ (b : Bool). Some (table_of (cond b (record t { ranges = Some (with_state 30 t.cursor rs); cursor = t.cursor + 1 }) t))) closing.is_open
        ∙ ap (λ (ws : List Way). Some (record (table_of t) { ways = Some ws; cursor = t.cursor + 1 })) (ways-with 30 t.cursor rs)
        ∙ ap (λ (o : Option (List Range)). Some (record (table_of t) { ways = option_map ways_of o; cursor = t.cursor + 1 })) (sym split)

    by : (b : Bool) → nat_lt range t.cursor ≡ b → IsPassed (CloseRange range devices) (Some t) (cond b [] (Closed place range ∷ []))
    by true is = tt
    by false is = let closing = closing-none t rs range devices is allowed in (can-close t rs devices split closing, leaves closing, tt)

emptying-passed : (change : ContChange) (t : Tables) (place : Place) (rs : List Range) → t.ranges ≡ Some rs → emptying_refusal t rs ≡ None
    → IsPassed change (Some t) (emptying_entries (Some t) place)
emptying-passed change t place rs split allowed = by t.emptied
  where
    past : nat_lt t.cursor (length rs) ≡ false
    past = emptying-none t rs allowed

    leaves : Some (table_of (emptied t t.ranges)) ≡ Some (left (table_of t) Empties)
    leaves =
        ap (λ (o : Option (List Range)). Some (table_of (emptied t o))) split
        ∙ ap (λ (b : Bool). Some (table_of (cond b t (record t { rows = no_rows_at t.rows.top; ranges = Some (all_in_state 40 rs); emptied = true })))) past
        ∙ ap (λ (ws : List Way). Some (record (table_of t) { rows = no_rows_at t.rows.top; ways = Some ws; emptied = true })) (ways-all 40 rs)
        ∙ ap (λ (o : Option (List Range)). Some (record (table_of t) { rows = no_rows_at t.rows.top; ways = option_map ways_of o; emptied = true })) (sym split)

    are : Tests (table_of t) Empties
    are = record {
      ways = ways_of rs;
      split = ap (λ (o : Option (List Range)). option_map ways_of o) split;
      closed = let high = ltb-false t.cursor (length rs) past in let many = length-ways rs in omega (arith, high, many);
    }

    by : (b : Bool) → IsPassed change (Some t) (cond b [] (Emptied place ∷ []))
    by true = tt
    by false = (are, leaves, tt)

-- ---- sync points

sync-passed : (change : ContChange) (t : Tables) (place : Place) (device rowid : ℕ)
    → IsPassed change (Some t) (entries_for (Some t) place (SetSync device rowid))
sync-passed change t place device rowid = by (is_above rowid (point_at t.syncs 0 device)) refl
  where
    by : (b : Bool) → is_above rowid (point_at t.syncs 0 device) ≡ b → IsPassed change (Some t) (cond b (Synced place device rowid ∷ []) [])
    by true above = (
      tt,
      ap (λ (b : Bool). Some (record (table_of t) { syncs = cond b (with_point t.syncs 0 device rowid) t.syncs })) (sym above),
      tt,
    )
    by false above = tt

-- ---- any step

pub steps-are-changes : StepsAreChanges
steps-are-changes None place (Create time) order allowed = (tt, refl, tt)
steps-are-changes (Some t) place (Create time) order allowed = by (nat_lt t.put_time time)
  where
    by : (b : Bool) → IsPassed (Create time) (Some t) (cond b (Created place time ∷ []) [])
    by true = (tt, refl, tt)
    by false = tt
steps-are-changes None place (Remove time) order allowed = cc
steps-are-changes (Some t) place (Remove time) order allowed = (tt, refl, tt)
steps-are-changes t place (MergeRow row) order allowed = rows-passed (MergeRow row) t place (row ∷ []) order allowed
steps-are-changes t place (MergeRows rows) order allowed = rows-passed (MergeRows rows) t place rows order allowed
steps-are-changes None place (SetRanges ranges) order allowed = cc
steps-are-changes (Some t) place (SetRanges ranges) order allowed =
    let there = over-none t (λ t. ranging_refusal t.ranges) allowed in ranging-passed (SetRanges ranges) t place ranges (ranging-none t.ranges there.1)
steps-are-changes None place (Ack range device rowid) order allowed = cc
steps-are-changes (Some t) place (Ack range device rowid) order allowed =
    let there = over-none t (λ t. refusal_with t.ranges (λ ranges. None)) allowed in
    let some = with-none t.ranges (λ ranges. None) there.1 in
    acking-passed (Ack range device rowid) t place range device rowid some.0 some.1
steps-are-changes None place (CloseRange range devices) order allowed = cc
steps-are-changes (Some t) place (CloseRange range devices) order allowed =
    let there = over-none t (λ t. refusal_with t.ranges (λ ranges. closing_refusal t ranges range devices)) allowed in
    let some = with-none t.ranges (λ ranges. closing_refusal t ranges range devices) there.1 in
    closing-passed t place range devices some.0 some.1 some.2
steps-are-changes None place EmptyOut order allowed = cc
steps-are-changes (Some t) place EmptyOut order allowed =
    let there = over-none t (λ t. refusal_with t.ranges (λ ranges. emptying_refusal t ranges)) allowed in
    let some = with-none t.ranges (λ ranges. emptying_refusal t ranges) there.1 in
    emptying-passed EmptyOut t place some.0 some.1 some.2
steps-are-changes None place (SetSync device rowid) order allowed = cc
steps-are-changes (Some t) place (SetSync device rowid) order allowed = sync-passed (SetSync device rowid) t place device rowid
