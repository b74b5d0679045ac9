-- What a step leaves of a container in order is in order.
use Rattle.std.proofs.Common.{◌≡◌, ℕ, ◌+◌, ◌≤◌, nat_lt, Bool, true, false, cond, List, [], ◌∷◌, ◌++◌, length}
use Rattle.std.proofs.Common.{unwrap_or, Option, None, Some, refl, sym, ◌∙◌, ap, subst}
use Rattle.std.proofs.Common.{arith}
use Rattle.std.proofs.lemmas.Bool.{lt-ltb, ltb-true}
use Rattle.std.specs.Option.{option_map}
use Rattle.sw_container_steps.specs.Entries.{all_entered, closed, emptied, ranged, rows_of}
use Rattle.sw_container_steps.specs.Presence.{deletion_after, is_dotted, is_no_time, is_present}
use Rattle.sw_container_steps.specs.Steps.{closing_refusal, created_by, creation_time, creator}
use Rattle.sw_container_steps.specs.Steps.{emptying_refusal, first_live, is_a_row, merging_entries, merging_refusal}
use Rattle.sw_container_steps.specs.Steps.{ranging_refusal, redirection, refusal_with, rows_entries}
use Rattle.sw_container_steps.specs.declared.cont_answer.ContAnswer.TheVariants as answers
use Rattle.sw_container_steps.specs.declared.cont_change.ContChange.TheVariants.{Create, Remove, MergeRow, MergeRows, SetRanges}
use Rattle.sw_container_steps.specs.declared.cont_change.ContChange.TheVariants.{Ack, CloseRange, EmptyOut, SetSync}
use Rattle.sw_container_steps.specs.declared.cont_entry.ContEntry.TheVariants.{Created, Merged, Acked, Closed, Emptied, Synced}
use Rattle.sw_hashpath.specs.declared.place.Place.{Place}
use Rattle.sw_keeper.specs.Changes.{begun}
use Rattle.sw_keeper.specs.declared.tables.Tables.{Tables}
use Rattle.sw_rows.specs.Rows.{Listed, find_named, fits, merged, no_rows_at}
use Rattle.sw_rows.specs.declared.row.Row.{Row}
use Rattle.sw_shard_range.proofs.States.{length-all, length-with}
use Rattle.sw_shard_range.specs.States.{all_in_state, with_state}
use Rattle.sw_shard_range.specs.declared.range.Range.{Range}
use Rattle.sw_sync.specs.Points.{is_above, point_at}
use Rattle.sw_split_steps.proofs.Refusing.{over-none, removal-none}
use Rattle.sw_split_steps.proofs.Ways.{length-ways}
use Rattle.sw_split_steps.specs.Laws.{NothingIsInOrder, StepsKeepOrder}
use Rattle.sw_split_steps.specs.Tables.{IsInOrder, ways_of}

pub nothing-in-order : NothingIsInOrder
nothing-in-order = record { whole = λ absent. tt; cursor = omega arith }

-- ---- single entries

begun-order : (time : ℕ) → IsInOrder (Some (begun time None))
begun-order time = record { whole = λ absent. refl; cursor = omega arith }

unsplit-order : (t : Tables) → t.ranges ≡ None → IsInOrder (Some t) → (time : ℕ) → IsInOrder (Some (record t { put_time = time }))
unsplit-order t none order time = record { whole = λ absent. none; cursor = order.cursor }

-- a later creation leaves no container absent that was present
creation-order : (t : Tables) (time : ℕ) → nat_lt t.put_time time ≡ true → IsInOrder (Some t) → IsInOrder (Some (record t { put_time = time }))
creation-order t time later order = record { whole = λ absent. order.whole (by t.delete_time absent); cursor = order.cursor }
  where
    by : (o : Option ℕ) → is_no_time (deletion_after time o) ≡ false → is_no_time (deletion_after t.put_time o) ≡ false
    by None absent = cc
    by (Some gone) absent = at (nat_lt time gone) refl absent
      where
        at : (b : Bool) → nat_lt time gone ≡ b → is_no_time (cond b (Some gone) None) ≡ false
            → is_no_time (cond (nat_lt t.put_time gone) (Some gone) None) ≡ false
        at false is absent = cc
        at true is absent =
            let low = ltb-true t.put_time time later in
            let high = ltb-true time gone is in
            let before : nat_lt t.put_time gone ≡ true = lt-ltb t.put_time gone (omega (arith, low, high)) in
            ap (λ (b : Bool). is_no_time (cond b (Some gone) None)) before

-- how many ranges there are, whatever states they are in
abbrev count : Option (List Range) → ℕ
count o = length (unwrap_or (option_map ways_of o) [])

-- ranges may be there where the container is
present-order : (t : Tables) → is_present (Some t) ≡ true → t.cursor ≤ count t.ranges → IsInOrder (Some t)
present-order t is low = record { whole = λ absent. absurd (clash (sym absent ∙ is)); cursor = low }
  where
    clash : false ≡ true → ⊥
    clash same = cc

-- ---- rows

merging-order : (t : Tables) (l : Listed) (place : Place) (rows : List Row) → IsInOrder (Some t)
    → IsInOrder (all_entered (Some t) (merging_entries l place rows))
merging-order t l place [] order = order
merging-order t l place (row ∷ rows) order =
    by (fits (find_named l.list row.name) row)
    (merging-order (record t { rows = merged t.rows row }) (merged l row) place rows (record { whole = order.whole; cursor = order.cursor }))
    (merging-order t (merged l row) place rows order)
  where
    by : (b : Bool) → IsInOrder (all_entered (Some (record t { rows = merged t.rows row })) (merging_entries (merged l row) place rows))
        → IsInOrder (all_entered (Some t) (merging_entries (merged l row) place rows))
        → IsInOrder (all_entered (Some t)
        (cond b (Merged place row ∷ merging_entries (merged l row) place rows) (merging_entries (merged l row) place rows)))
    by true more same = more
    by false more same = same

created-order : (t : Option Tables) (place : Place) (time : ℕ) (rows : List Row) → IsInOrder t → is_present t ≡ false
    → IsInOrder (all_entered t (Created place time ∷ merging_entries (rows_of t) place rows))
created-order None place time rows order absent = merging-order (begun time None) (rows_of None) place rows (begun-order time)
created-order (Some t) place time rows order absent =
    merging-order (record t { put_time = time }) t.rows place rows (unsplit-order t (order.whole absent) order time)

rows-order : (t : Option Tables) (place : Place) (rows : List Row) → IsInOrder t → merging_refusal t place rows ≡ None
    → IsInOrder (all_entered t (rows_entries t place rows))
rows-order t place rows order allowed = by (is_present t) refl allowed
  where
    there : (t : Option Tables) → IsInOrder t → is_present t ≡ true → IsInOrder (all_entered t (merging_entries (rows_of t) place rows))
    there None order is = cc
    there (Some t) order is = merging-order t t.rows place rows order

    absent : (o : Option Row) → is_present t ≡ false → cond (is_a_row o) None (Some answers.Absent) ≡ None
        → IsInOrder (all_entered t (created_by t place o ++ merging_entries (rows_of t) place rows))
    absent None is allowed = cc
    absent (Some row) is allowed = created-order t place (creation_time t row) rows order is

    by : (b : Bool) → is_present t ≡ b
        → cond b (redirection t rows) (cond (is_a_row (creator t place rows)) None (Some answers.Absent)) ≡ None
        → IsInOrder (all_entered t (created_by t place (creator t place rows) ++ merging_entries (rows_of t) place rows))
    by true is allowed =
        let none : creator t place rows ≡ None = ap (λ (b : Bool). cond b None (cond (is_dotted place) (first_live rows) None)) is in
        subst (λ (o : Option Row). IsInOrder (all_entered t (created_by t place o ++ merging_entries (rows_of t) place rows))) (sym none) (there t order is)
    by false is allowed = absent (creator t place rows) is allowed

-- ---- ranges

ranged-order : (t : Tables) (rs : List Range) (o : Option (List Range)) → is_present (Some t) ≡ true → t.cursor ≤ count t.ranges
    → IsInOrder (Some (ranged t o rs))
ranged-order t rs None is low = present-order (ranged t None rs) is (omega arith)
ranged-order t rs (Some old) is low = present-order t is low

closed-order : (t : Tables) (o : Option (List Range)) → is_present (Some t) ≡ true → t.cursor ≤ count t.ranges → IsInOrder (Some (closed t o))
closed-order t None is low = present-order t is low
closed-order t (Some rs) is low = by (nat_lt t.cursor (length rs)) refl
  where
    by : (b : Bool) → nat_lt t.cursor (length rs) ≡ b
        → IsInOrder (Some (cond b (record t { ranges = Some (with_state 30 t.cursor rs); cursor = t.cursor + 1 }) t))
    by true within =
        let below = ltb-true t.cursor (length rs) within in
        let many = length-ways (with_state 30 t.cursor rs) in
        let same = length-with 30 t.cursor rs in
        present-order (record t { ranges = Some (with_state 30 t.cursor rs); cursor = t.cursor + 1 }) is (omega (arith, below, many, same))
    by false within = present-order t is low

emptied-order : (t : Tables) (o : Option (List Range)) → t.ranges ≡ o → is_present (Some t) ≡ true → t.cursor ≤ count t.ranges → IsInOrder (Some (emptied t o))
emptied-order t None split is low = present-order t is low
emptied-order t (Some rs) split is low = by (nat_lt t.cursor (length rs))
  where
    by : (b : Bool) → IsInOrder (Some (cond b t (record t { rows = no_rows_at t.rows.top; ranges = Some (all_in_state 40 rs); emptied = true })))
    by true = present-order t is low
    by false =
        let before : count t.ranges ≡ length (ways_of rs) = ap count split in
        let old = length-ways rs in
        let many = length-ways (all_in_state 40 rs) in
        let same = length-all 40 rs in
        present-order (record t { rows = no_rows_at t.rows.top; ranges = Some (all_in_state 40 rs); emptied = true }) is
        (omega (arith, low, before, old, many, same))

-- ---- any step

pub steps-keep-order : StepsKeepOrder
steps-keep-order None place (Create time) order allowed = begun-order time
steps-keep-order (Some t) place (Create time) order allowed = by (nat_lt t.put_time time) refl
  where
    by : (b : Bool) → nat_lt t.put_time time ≡ b → IsInOrder (all_entered (Some t) (cond b (Created place time ∷ []) []))
    by true later = creation-order t time later order
    by false later = order
steps-keep-order None place (Remove time) order allowed = cc
steps-keep-order (Some t) place (Remove time) order allowed =
    record { whole = λ absent. removal-none t time allowed; cursor = order.cursor }
steps-keep-order t place (MergeRow row) order allowed = rows-order t place (row ∷ []) order allowed
steps-keep-order t place (MergeRows rows) order allowed = rows-order t place rows order allowed
steps-keep-order None place (SetRanges ranges) order allowed = cc
steps-keep-order (Some t) place (SetRanges ranges) order allowed =
    let there = over-none t (λ t. ranging_refusal t.ranges) allowed in ranged-order t ranges t.ranges there.0 order.cursor
steps-keep-order None place (Ack range device rowid) order allowed = cc
steps-keep-order (Some t) place (Ack range device rowid) order allowed = by (is_above rowid (point_at t.points range device))
  where
    by : (b : Bool) → IsInOrder (all_entered (Some t) (cond b (Acked place range device rowid ∷ []) []))
    by true = record { whole = order.whole; cursor = order.cursor }
    by false = order
steps-keep-order None place (CloseRange range devices) order allowed = cc
steps-keep-order (Some t) place (CloseRange range devices) order allowed = by (nat_lt range t.cursor)
  where
    by : (b : Bool) → IsInOrder (all_entered (Some t) (cond b [] (Closed place range ∷ [])))
    by true = order
    by false =
        let there = over-none t (λ t. refusal_with t.ranges (λ ranges. closing_refusal t ranges range devices)) allowed in
        closed-order t t.ranges there.0 order.cursor
steps-keep-order None place EmptyOut order allowed = cc
steps-keep-order (Some t) place EmptyOut order allowed = by t.emptied
  where
    by : (b : Bool) → IsInOrder (all_entered (Some t) (cond b [] (Emptied place ∷ [])))
    by true = order
    by false =
        let there = over-none t (λ t. refusal_with t.ranges (λ ranges. emptying_refusal t ranges)) allowed in
        emptied-order t t.ranges refl there.0 order.cursor
steps-keep-order None place (SetSync device rowid) order allowed = cc
steps-keep-order (Some t) place (SetSync device rowid) order allowed = by (is_above rowid (point_at t.syncs 0 device))
  where
    by : (b : Bool) → IsInOrder (all_entered (Some t) (cond b (Synced place device rowid ∷ []) []))
    by true = record { whole = order.whole; cursor = order.cursor }
    by false = order
