-- What isn't refused leaves tables, and is seen in them.
use Rattle.std.proofs.Common.{◌≡◌, ◌≢◌, ℕ, ◌+◌, ◌<◌, ◌≤◌, ◌==◌, ◌&&◌, nat_lt, zero, suc, Bool, true, false, cond}
use Rattle.std.proofs.Common.{List, [], ◌∷◌, ◌++◌, length, Option, None, Some, refl, sym}
use Rattle.std.proofs.Common.{◌∙◌, ap, subst, arith}
use Rattle.std.specs.List.{fold}
use Rattle.std.specs.Option.{IsSome, is_some}
use Rattle.std.proofs.lemmas.Bool.{le-ltb}
use Rattle.std.proofs.lemmas.Bool.Decides.{nat_tests}
use Rattle.sw_hashpath.specs.declared.place.Place.{Place}
use Rattle.sw_rows.specs.Rows.{Listed, find_named, fits, merged, no_rows_at, with_row}
use Rattle.sw_rows.specs.Sums.{count_of}
use Rattle.sw_rows.specs.declared.row.Row.{Row}
use Rattle.sw_keeper.specs.declared.tables.Tables.{Tables}
use Rattle.sw_shard_range.specs.States.{all_in_state, with_state}
use Rattle.sw_shard_range.specs.declared.range.Range.{Range}
use Rattle.sw_sync.specs.Points.{PointList, is_above, point_at, raised, with_point}
use Rattle.sw_sync.proofs.Setting.{point-set}
use Rattle.sw_container_steps.specs.Entries.{all_entered, closed, emptied, entered, ranged, rows_of}
use Rattle.sw_container_steps.specs.Laws.{EntriesAreSeen, StepsHold, left, sign_of}
use Rattle.sw_container_steps.specs.declared.sign.Sign.{Sign}
use Rattle.sw_container_steps.specs.Presence.{deletion_after, is_dotted, is_no_time, is_present}
use Rattle.sw_container_steps.specs.Steps.{closing_refusal, cont_refusal, created_by, creation_time, creator, emptying_refusal, entries_for, first_live}
use Rattle.sw_container_steps.specs.Steps.{is_a_row, merging_entries, merging_refusal, not_acked}
use Rattle.sw_container_steps.specs.Steps.{ranging_refusal, refusal_with, removal_refusal_of, rows_entries}
use Rattle.sw_container_steps.specs.Steps.{unacked_refusal}
use Rattle.sw_keeper.specs.Changes.{begun}
use Rattle.sw_container_steps.specs.declared.cont_answer.ContAnswer.{ContAnswer}
use Rattle.sw_container_steps.specs.declared.cont_answer.ContAnswer.TheVariants as answers
use Rattle.sw_container_steps.specs.declared.cont_change.ContChange.TheVariants.{Create, Remove, MergeRow, MergeRows, SetRanges, Ack, CloseRange}
use Rattle.sw_container_steps.specs.declared.cont_change.ContChange.TheVariants.{EmptyOut, SetSync}
use Rattle.sw_container_steps.specs.declared.cont_entry.ContEntry.{ContEntry}
use Rattle.sw_container_steps.specs.declared.cont_entry.ContEntry.TheVariants.{Created, Removed, Merged, Ranged, Acked, Closed, Emptied, Synced}
use Rattle.sw_container_steps.proofs.Leaving.{rows-are-merged}

clash : false ≡ true → ⊥
clash is = cc

one-some : (t : Tables) (e : ContEntry) → (u : Tables) × (entered (Some t) e ≡ Some u)
one-some t (Created place time) = (record t { put_time = time }, refl)
one-some t (Removed place time) = (record t { delete_time = Some time }, refl)
one-some t (Merged place row) = (record t { rows = merged t.rows row }, refl)
one-some t (Ranged place ranges) = (ranged t t.ranges ranges, refl)
one-some t (Acked place range device rowid) = (record t { points = raised t.points range device rowid }, refl)
one-some t (Closed place range) = (closed t t.ranges, refl)
one-some t (Emptied place) = (emptied t t.ranges, refl)
one-some t (Synced place device rowid) = (record t { syncs = with_point t.syncs 0 device rowid }, refl)

-- what is held stays held, whatever is entered
pub all-some : (t : Tables) (es : List ContEntry) → IsSome (all_entered (Some t) es)
all-some t [] = refl
all-some t (e ∷ es) =
    let one = one-some t e in subst (λ (o : Option Tables). IsSome (all_entered o es)) (sym one.1) (all-some one.0 es)

abbrev IsRefusal : Option ContAnswer → Type 0
IsRefusal o = o ≡ None

refused-not : IsRefusal (Some answers.Absent) → ⊥
refused-not is = cc

rows-hold : (place : Place) (rows : List Row) → cont_refusal None place (MergeRows rows) ≡ None → IsSome (left None place (MergeRows rows))
rows-hold place rows = at (cond (is_dotted place) (first_live rows) None)
  where
    at : (o : Option Row) → cond (is_a_row o) None (Some answers.Absent) ≡ None
        → IsSome (all_entered None (created_by None place o ++ merging_entries (rows_of None) place rows))
    at None allowed = cc
    at (Some row) allowed = all-some (begun (creation_time None row) None) (merging_entries (rows_of None) place rows)

pub steps-hold : StepsHold
steps-hold (Some t) place change allowed = all-some t (entries_for (Some t) place change)
steps-hold None place (Create time) allowed = refl
steps-hold None place (Remove time) allowed = absurd (refused-not allowed)
steps-hold None place (MergeRow row) allowed = rows-hold place (row ∷ []) allowed
steps-hold None place (MergeRows rows) allowed = rows-hold place rows allowed
steps-hold None place (SetRanges ranges) allowed = absurd (refused-not allowed)
steps-hold None place (Ack range device rowid) allowed = absurd (refused-not allowed)
steps-hold None place (CloseRange range devices) allowed = absurd (refused-not allowed)
steps-hold None place EmptyOut allowed = absurd (refused-not allowed)
steps-hold None place (SetSync device rowid) allowed = absurd (refused-not allowed)

-- ---- presence, by the times

present_of : Option Sign → Bool
present_of None = false
present_of (Some s) = is_no_time (deletion_after s.put_time s.delete_time)

present-sign : (es : List ContEntry) (t : Option Tables) → present_of (sign_of es t) ≡ is_present t
unfolding present_of
present-sign es None = refl
present-sign es (Some t) = refl

put_of : Option Sign → ℕ
put_of None = 0
put_of (Some s) = s.put_time

top_in : Option Sign → ℕ
top_in None = 0
top_in (Some s) = s.top

point_in : Option Sign → Option ℕ
point_in None = None
point_in (Some s) = s.raised

ranged_in : Option Sign → Bool
ranged_in None = false
ranged_in (Some s) = s.is_ranged

cursor_from : Option Sign → ℕ
cursor_from None = 0
cursor_from (Some s) = s.cursor

emptied_in : Option Sign → Bool
emptied_in None = false
emptied_in (Some s) = s.emptied

-- ---- rows that are put in raise the greatest number

merged-up : (l : Listed) (row : Row) → l.top ≤ (merged l row).top
merged-up l row = by (fits (find_named l.list row.name) row)
  where
    by : (b : Bool) → l.top ≤ (cond b (with_row l row) l).top
    by true = omega arith
    by false = omega arith

fold-up : (l : Listed) (rows : List Row) → l.top ≤ (fold merged l rows).top
fold-up l [] = omega arith
fold-up l (row ∷ rows) = let one = merged-up l row in let more = fold-up (merged l row) rows in omega (arith, one, more)

merging-rises : (l : Listed) (place : Place) (rows : List Row) → merging_entries l place rows ≢ [] → l.top < (fold merged l rows).top
merging-rises l place [] full = absurd (full refl)
merging-rises l place (row ∷ rows) full = by (fits (find_named l.list row.name) row) refl full (λ more. merging-rises (merged l row) place rows more)
  where
    by : (b : Bool) → fits (find_named l.list row.name) row ≡ b
        → cond b (Merged place row ∷ merging_entries (merged l row) place rows) (merging_entries (merged l row) place rows) ≢ []
        → (merging_entries (merged l row) place rows ≢ [] → (merged l row).top < (fold merged (merged l row) rows).top)
        → l.top < (fold merged (merged l row) rows).top
    by true is full again =
        let top : (merged l row).top ≡ l.top + 1 = ap (λ (b : Bool). (cond b (with_row l row) l).top) is in
        let more : (merged l row).top ≤ (fold merged (merged l row) rows).top = fold-up (merged l row) rows in
        omega (arith, top, more)
    by false is full again =
        let top : l.top ≤ (merged l row).top = merged-up l row in
        let more : (merged l row).top < (fold merged (merged l row) rows).top = again full in
        omega (arith, top, more)

-- ---- each kind of step

creation-seen : (t : Tables) (place : Place) (time : ℕ) → entries_for (Some t) place (Create time) ≢ [] →
    sign_of (entries_for (Some t) place (Create time)) (left (Some t) place (Create time)) ≢ sign_of (entries_for (Some t) place (Create time)) (Some t)
unfolding put_of
creation-seen t place time full same = by (nat_lt t.put_time time) refl full same
  where
    by : (b : Bool) → nat_lt t.put_time time ≡ b → cond b (Created place time ∷ []) [] ≢ [] →
        sign_of (cond b (Created place time ∷ []) []) (all_entered (Some t) (cond b (Created place time ∷ []) []))
        ≡ sign_of (cond b (Created place time ∷ []) []) (Some t) → ⊥
    by true later full same =
        let times : time ≡ t.put_time = ap put_of same in
        let earlier : nat_lt t.put_time time ≡ false = le-ltb t.put_time time (omega (arith, times)) in
        clash (sym earlier ∙ later)
    by false later full same = full refl

removed-absent : (t : Tables) (time : ℕ) → is_present (Some t) ≡ true → nat_lt t.put_time time ≡ true →
    is_no_time (deletion_after t.put_time (Some time)) ≡ false
removed-absent t time is later = ap (λ (b : Bool). is_no_time (cond b (Some time) None)) later

removal-seen : (t : Tables) (place : Place) (time : ℕ) → cont_refusal (Some t) place (Remove time) ≡ None →
    sign_of (entries_for (Some t) place (Remove time)) (left (Some t) place (Remove time)) ≢ sign_of (entries_for (Some t) place (Remove time)) (Some t)
removal-seen t place time allowed same = by (is_present (Some t)) t.ranges (count_of t.rows.list) refl allowed
  where
    at : (b : Bool) → nat_lt t.put_time time ≡ b → is_present (Some t) ≡ true → cond b None (Some (answers.Stale t.put_time)) ≡ None → ⊥
    at true later is allowed =
        let now : is_present (left (Some t) place (Remove time)) ≡ is_present (Some t) =
        sym (present-sign (entries_for (Some t) place (Remove time)) (left (Some t) place (Remove time)))
        ∙ (ap present_of same ∙ present-sign (entries_for (Some t) place (Remove time)) (Some t)) in
        clash (sym (removed-absent t time is later) ∙ (now ∙ is))
    at false later is allowed = cc

    by : (b : Bool) (o : Option (List Range)) (n : ℕ) → is_present (Some t) ≡ b
        → cond b (removal_refusal_of o n t.put_time time) (Some answers.Absent) ≡ None → ⊥
    by true None zero is allowed = at (nat_lt t.put_time time) refl is allowed
    by true None (suc n) is allowed = cc
    by true (Some ranges) n is allowed = cc
    by false o n is allowed = cc

-- a container that is there keeps its times, and the greatest number rises
top-sign : (es : List ContEntry) (t : Option Tables) → top_in (sign_of es t) ≡ (rows_of t).top
unfolding top_in
top-sign es None = refl
top-sign es (Some t) = refl

present-rows-seen : (t : Option Tables) (place : Place) (rows : List Row) → is_present t ≡ true →
    rows_of (left t place (MergeRows rows)) ≡ fold merged (rows_of t) rows
    → rows_entries t place rows ≢ [] → sign_of (rows_entries t place rows) (left t place (MergeRows rows)) ≡ sign_of (rows_entries t place rows) t → ⊥
present-rows-seen t place rows is rows_are full same =
    let none : created_by t place (creator t place rows) ≡ [] =
    ap (λ (b : Bool). created_by t place (cond b None (cond (is_dotted place) (first_live rows) None))) is in
    let some : merging_entries (rows_of t) place rows ≢ [] = λ empty. full
    (ap (λ (es : List ContEntry). es ++ merging_entries (rows_of t) place rows) none ∙ empty) in
    let rises : (rows_of t).top < (fold merged (rows_of t) rows).top = merging-rises (rows_of t) place rows some in
    let top : (fold merged (rows_of t) rows).top ≡ (rows_of t).top =
    ap (λ (l : Listed). l.top) (sym rows_are)
    ∙ (sym (top-sign (rows_entries t place rows) (left t place (MergeRows rows))) ∙ (ap top_in same ∙ top-sign (rows_entries t place rows) t)) in
    absurd (omega (arith, rises, top))

rows-seen : (t : Option Tables) (place : Place) (rows : List Row) → merging_refusal t place rows ≡ None → rows_entries t place rows ≢ [] →
    sign_of (rows_entries t place rows) (left t place (MergeRows rows)) ≢ sign_of (rows_entries t place rows) t
rows-seen t place rows allowed full same = by (is_present t) refl
  where
    there : is_present (left t place (MergeRows rows)) ≡ true
    there = (rows-are-merged t place rows allowed).0

    now : is_present (left t place (MergeRows rows)) ≡ is_present t
    now = sym (present-sign (rows_entries t place rows) (left t place (MergeRows rows))) ∙ (ap present_of same ∙ present-sign (rows_entries t place rows) t)

    by : (b : Bool) → is_present t ≡ b → ⊥
    by false is = clash (sym is ∙ (sym now ∙ there))
    by true is = present-rows-seen t place rows is (rows-are-merged t place rows allowed).1 full same

-- a number that is set is above the one that was kept, so it isn't that one
above-itself : (rowid : ℕ) → is_above rowid (Some rowid) ≡ true → ⊥
above-itself rowid is = clash (sym (le-ltb rowid rowid (omega arith)) ∙ is)

sync-seen : (t : Tables) (place : Place) (device rowid : ℕ) → entries_for (Some t) place (SetSync device rowid) ≢ [] →
    sign_of (entries_for (Some t) place (SetSync device rowid)) (left (Some t) place (SetSync device rowid))
    ≢ sign_of (entries_for (Some t) place (SetSync device rowid)) (Some t)
unfolding point_in
sync-seen t place device rowid full same = by (is_above rowid (point_at t.syncs 0 device)) refl full same
  where
    by : (b : Bool) → is_above rowid (point_at t.syncs 0 device) ≡ b → cond b (Synced place device rowid ∷ []) [] ≢ [] →
        sign_of (cond b (Synced place device rowid ∷ []) []) (all_entered (Some t) (cond b (Synced place device rowid ∷ []) []))
        ≡ sign_of (cond b (Synced place device rowid ∷ []) []) (Some t) → ⊥
    by true above full same =
        let points : point_at (with_point t.syncs 0 device rowid) 0 device ≡ point_at t.syncs 0 device = ap point_in same in
        let kept : point_at t.syncs 0 device ≡ Some rowid = sym points ∙ point-set t.syncs 0 device rowid in
        above-itself rowid (ap (λ (o : Option ℕ). is_above rowid o) (sym kept) ∙ above)
    by false above full same = full refl

-- a list of ranges is there after it was set, and wasn't there before
ranging-seen : (t : Tables) (place : Place) (ranges : List Range) → cont_refusal (Some t) place (SetRanges ranges) ≡ None →
    sign_of (entries_for (Some t) place (SetRanges ranges)) (left (Some t) place (SetRanges ranges))
    ≢ sign_of (entries_for (Some t) place (SetRanges ranges)) (Some t)
unfolding ranged_in
ranging-seen t place ranges allowed same = by (is_present (Some t)) t.ranges allowed (ap ranged_in same)
  where
    by : (b : Bool) (o : Option (List Range)) → cond b (ranging_refusal o) (Some answers.Absent) ≡ None → is_some (ranged t o ranges).ranges ≡ is_some o → ⊥
    by true None allowed same = cc
    by true (Some old) allowed same = cc
    by false o allowed same = cc

acking-seen : (t : Tables) (place : Place) (range device rowid : ℕ) → entries_for (Some t) place (Ack range device rowid) ≢ [] →
    sign_of (entries_for (Some t) place (Ack range device rowid)) (left (Some t) place (Ack range device rowid))
    ≢ sign_of (entries_for (Some t) place (Ack range device rowid)) (Some t)
unfolding point_in
acking-seen t place range device rowid full same = by (is_above rowid (point_at t.points range device)) refl full same
  where
    by : (b : Bool) → is_above rowid (point_at t.points range device) ≡ b → cond b (Acked place range device rowid ∷ []) [] ≢ [] →
        sign_of (cond b (Acked place range device rowid ∷ []) []) (all_entered (Some t) (cond b (Acked place range device rowid ∷ []) []))
        ≡ sign_of (cond b (Acked place range device rowid ∷ []) []) (Some t) → ⊥
    by true above full same =
        let up : raised t.points range device rowid ≡ with_point t.points range device rowid =
        ap (λ (b : Bool). cond b (with_point t.points range device rowid) t.points) above in
        let points : point_at (raised t.points range device rowid) range device ≡ point_at t.points range device = ap point_in same in
        let kept : point_at t.points range device ≡ Some rowid =
        sym points ∙ (ap (λ (p : PointList). point_at p range device) up ∙ point-set t.points range device rowid) in
        above-itself rowid (ap (λ (o : Option ℕ). is_above rowid o) (sym kept) ∙ above)
    by false above full same = full refl

-- the range that is closed is one that there is, so that the count of closed ones rises
closing-seen : (t : Tables) (place : Place) (range : ℕ) (devices : List ℕ) → cont_refusal (Some t) place (CloseRange range devices) ≡ None →
    entries_for (Some t) place (CloseRange range devices) ≢ [] →
    sign_of (entries_for (Some t) place (CloseRange range devices)) (left (Some t) place (CloseRange range devices))
    ≢ sign_of (entries_for (Some t) place (CloseRange range devices)) (Some t)
unfolding cursor_from
closing-seen t place range devices allowed full same = by (nat_lt range t.cursor) refl full same
  where
    rises : (ranges : List Range) → nat_lt t.cursor (length ranges) ≡ true → (closed t (Some ranges)).cursor ≡ t.cursor → ⊥
    rises ranges is stays =
        let up : (closed t (Some ranges)).cursor ≡ t.cursor + 1 =
        ap (λ (b : Bool). (cond b (record t { ranges = Some (with_state 30 t.cursor ranges); cursor = t.cursor + 1 }) t).cursor) is in
        let no : t.cursor + 1 ≡ t.cursor = sym up ∙ stays in
        absurd (omega (arith, no))

    equal : (a b : ℕ) → (a == b) ≡ true → a ≡ b
    equal a b is = grind (arith, nat_tests, is)

    there : (ranges : List Range) (c d : Bool) → (range == t.cursor) ≡ c → nat_lt range (length ranges) ≡ d
        → cond (c && d) (unacked_refusal t ranges range (not_acked t.points range devices)) (Some (answers.StillOpen t.cursor)) ≡ None
        → nat_lt t.cursor (length ranges) ≡ true
    there ranges true true is within fine = subst (λ (n : ℕ). nat_lt n (length ranges) ≡ true) (equal range t.cursor is) within
    there ranges true false is within fine = cc
    there ranges false d is within fine = cc

    open_ : (b : Bool) (o : Option (List Range)) → nat_lt range t.cursor ≡ false
        → cond b (refusal_with o (λ ranges. closing_refusal t ranges range devices)) (Some answers.Absent) ≡ None
        → (closed t o).cursor ≡ t.cursor → ⊥
    open_ false o is fine stays = cc
    open_ true None is fine stays = cc
    open_ true (Some ranges) is fine stays =
        let tested = ap (λ (x : Bool). cond x None (cond ((range == t.cursor) && nat_lt range (length ranges))
        (unacked_refusal t ranges range (not_acked t.points range devices)) (Some (answers.StillOpen t.cursor)))) (sym is) ∙ fine in
        rises ranges (there ranges (range == t.cursor) (nat_lt range (length ranges)) refl refl tested) stays

    by : (below : Bool) → nat_lt range t.cursor ≡ below → cond below [] (Closed place range ∷ []) ≢ []
        → sign_of (cond below [] (Closed place range ∷ [])) (all_entered (Some t) (cond below [] (Closed place range ∷ [])))
        ≡ sign_of (cond below [] (Closed place range ∷ [])) (Some t) → ⊥
    by true is full same = full refl
    by false is full same = open_ (is_present (Some t)) t.ranges is allowed (ap cursor_from same)

emptying-seen : (t : Tables) (place : Place) → cont_refusal (Some t) place EmptyOut ≡ None → entries_for (Some t) place EmptyOut ≢ [] →
    sign_of (entries_for (Some t) place EmptyOut) (left (Some t) place EmptyOut) ≢ sign_of (entries_for (Some t) place EmptyOut) (Some t)
unfolding emptied_in
emptying-seen t place allowed full same = by t.emptied refl full same
  where
    gone : (ranges : List Range) (b : Bool) → t.emptied ≡ false → cond b (Some (answers.StillOpen t.cursor)) None ≡ None
        → (cond b t (record t { rows = no_rows_at t.rows.top; ranges = Some (all_in_state 40 ranges); emptied = true })).emptied ≡ t.emptied → ⊥
    gone ranges true is fine stays = cc
    gone ranges false is fine stays = let no : true ≡ false = stays ∙ is in cc

    closed_all : (b : Bool) (o : Option (List Range)) → t.emptied ≡ false
        → cond b (refusal_with o (λ ranges. emptying_refusal t ranges)) (Some answers.Absent) ≡ None → (emptied t o).emptied ≡ t.emptied → ⊥
    closed_all false o is fine stays = cc
    closed_all true None is fine stays = cc
    closed_all true (Some ranges) is fine stays = gone ranges (nat_lt t.cursor (length ranges)) is fine stays

    by : (e : Bool) → t.emptied ≡ e → cond e [] (Emptied place ∷ []) ≢ []
        → sign_of (cond e [] (Emptied place ∷ [])) (all_entered (Some t) (cond e [] (Emptied place ∷ [])))
        ≡ sign_of (cond e [] (Emptied place ∷ [])) (Some t) → ⊥
    by true is full same = full refl
    by false is full same = closed_all (is_present (Some t)) t.ranges is allowed (ap emptied_in same)

pub entries-are-seen : EntriesAreSeen
entries-are-seen None place (Create time) allowed full same = cc
entries-are-seen (Some t) place (Create time) allowed full same = creation-seen t place time full same
entries-are-seen None place (Remove time) allowed full same = cc
entries-are-seen (Some t) place (Remove time) allowed full same = removal-seen t place time allowed same
entries-are-seen t place (MergeRow row) allowed full same = rows-seen t place (row ∷ []) allowed full same
entries-are-seen t place (MergeRows rows) allowed full same = rows-seen t place rows allowed full same
entries-are-seen None place (SetRanges ranges) allowed full same = refused-not allowed
entries-are-seen (Some t) place (SetRanges ranges) allowed full same = ranging-seen t place ranges allowed same
entries-are-seen None place (Ack range device rowid) allowed full same = refused-not allowed
entries-are-seen (Some t) place (Ack range device rowid) allowed full same = acking-seen t place range device rowid full same
entries-are-seen None place (CloseRange range devices) allowed full same = refused-not allowed
entries-are-seen (Some t) place (CloseRange range devices) allowed full same = closing-seen t place range devices allowed full same
entries-are-seen None place EmptyOut allowed full same = refused-not allowed
entries-are-seen (Some t) place EmptyOut allowed full same = emptying-seen t place allowed full same
entries-are-seen None place (SetSync device rowid) allowed full same = cc
entries-are-seen (Some t) place (SetSync device rowid) allowed full same = sync-seen t place device rowid full same
