-- A change of a container whose step came: its tables behind it bear out the reply to it, and no time in them is earlier than it was.
use Rattle.std.proofs.Common.{◌≡◌, ℕ, zero, suc, ◌≤◌, ◌<◌, Bool, true, false, nat_lt, if◌then◌else◌, max, List, [], ◌∷◌, ◌++◌, Option, None, Some, ◌⊎◌}
use Rattle.std.proofs.Common.{◌+◌, ◌&&◌, ◌==◌, fold, inl, inr, is_some, length}
use Rattle.std.proofs.Common.{refl, sym, ◌∙◌, ap, subst, arith}
use Rattle.std.proofs.lemmas.Bool.Decides.{nat_tests}
use Rattle.std.specs.Bool.{⊤}
use Rattle.std.specs.Option.{option_map, option_map_or}
use Rattle.sw_container_server.specs.Replies.{change_reply, made_status, redirect_reply, reply_to}
use Rattle.sw_object_server.specs.Replies.{bare}
use Rattle.sw_shard_range.specs.States.{all_in_state, with_state}
use Rattle.sw_shard_range.specs.declared.range.Range.{Range}
use Rattle.sw_container_steps.specs.Serving.{first_served}
use Rattle.sw_container_steps.proofs.Leaving.{merging-leaves, rows-are-merged}
use Rattle.sw_container_steps.proofs.Ruling.{one-cut}
use Rattle.sw_container_steps.specs.Entries.{all_entered, closed, emptied, entered, ranged}
use Rattle.sw_container_steps.specs.Laws.{left}
use Rattle.sw_container_steps.specs.Presence.{deletion, deletion_after, is_dotted, is_no_time, is_present}
use Rattle.sw_container_steps.specs.Rules.{ChangesContainer, ContHistory, ContJournal, cont_ending, cont_rules}
use Rattle.sw_container_steps.specs.Steps.{cont_refusal, created_by, creation_time, creator, entries_for, is_a_row, merging_entries, merging_refusal}
use Rattle.sw_container_steps.specs.Steps.{closing_refusal, emptying_refusal, first_live, later_row, not_acked, ranging_refusal, redirection, refusal_over}
use Rattle.sw_container_steps.specs.Steps.{refusal_with, removal_refusal_of, removal_refusal_over, rows_entries, stale_creation, unacked_refusal}
use Rattle.sw_container_steps.specs.declared.cont_answer.ContAnswer.{ContAnswer}
use Rattle.sw_container_steps.specs.declared.cont_answer.ContAnswer.TheVariants as answers
use Rattle.sw_container_steps.specs.declared.cont_change.ContChange.{ContChange}
use Rattle.sw_container_steps.specs.declared.cont_change.ContChange.TheVariants.{Create, Remove, MergeRow, MergeRows, SetRanges, Ack}
use Rattle.sw_container_steps.specs.declared.cont_change.ContChange.TheVariants.{CloseRange, EmptyOut, SetSync}
use Rattle.sw_container_steps.specs.declared.cont_entry.ContEntry.{ContEntry}
use Rattle.sw_container_steps.specs.declared.cont_entry.ContEntry.TheVariants.{Created, Acked, Closed, Emptied, Synced}
use Rattle.sw_hashpath.specs.declared.place.Place.{Place}
use Rattle.sw_keeper.specs.declared.tables.Tables.{Tables}
use Rattle.sw_message.specs.declared.response.Response.{Response}
use Rattle.sw_peer.specs.ContSights.{IsContMade}
use Rattle.sw_peer.specs.Sights.{IsSame, Sight, cont_lock}
use Rattle.sw_peer.specs.declared.link.Link.TheVariants.{Local}
use Rattle.sw_rows.specs.Rows.{no_rows_at}
use Rattle.sw_rows.specs.Sums.{count_of}
use Rattle.sw_rows.specs.declared.row.Row.{Row}
use Rattle.sw_step.specs.Journals.{flat}
use Rattle.sw_step.specs.Rules.{Damages, Ending, Fails, Makes, Overflows, Refuses, Wants}
use Rattle.sw_step.specs.Steps.{Answers, EndsSeen, EndsUnseen, Stops}
use Rattle.sw_sync.specs.Points.{is_above, point_at, raised, with_point}
use Rattle.sw_reply_laws.proofs.Greatest.{merged-stands}
use Rattle.sw_reply_laws.proofs.Lateness.{not-below}
use Rattle.sw_reply_laws.proofs.Making.{once}
use Rattle.sw_reply_laws.specs.Containers.{HasChange, IsDeletedSince, IsLateFor, IsPutSince, IsSplit, TablesBearOut}
use Rattle.sw_reply_laws.specs.Laws.{ChangesStand}
use Rattle.sw_reply_laws.specs.Objects.{IsSince, tells_made}

-- ---- times

-- no time is earlier than it was, and what had ranges has some
pub record KeepsTimes (t u : Option Tables) : Type 0 where
  pub put : (time : ℕ) → IsPutSince t time → IsPutSince u time
  pub deleted : (time : ℕ) → IsDeletedSince t time → IsDeletedSince u time
  pub split : IsSplit t → IsSplit u

pub times-same : (t u : Option Tables) → u ≡ t → KeepsTimes t u
times-same t u same = record {
  put = λ time since. subst (λ (x : Option Tables). IsPutSince x time) (sym same) since;
  deleted = λ time since. subst (λ (x : Option Tables). IsDeletedSince x time) (sym same) since;
  split = λ was. subst IsSplit (sym same) was;
}

pub times-on : (t u v : Option Tables) → KeepsTimes t u → KeepsTimes u v → KeepsTimes t v
times-on t u v first next = record {
  put = λ time since. next.put time (first.put time since);
  deleted = λ time since. next.deleted time (first.deleted time since);
  split = λ was. next.split (first.split was);
}

from-none : (u : Option Tables) → KeepsTimes None u
from-none u = record { put = λ time since. absurd since; deleted = λ time since. absurd since; split = λ was. absurd was }

below : (m n : ℕ) → nat_lt m n ≡ true → m < n
below m n is = grind (arith, nat_tests)

-- the put time rises
put-rises : (t : Tables) (time : ℕ) → t.put_time ≤ time → KeepsTimes (Some t) (Some (record t { put_time = time }))
put-rises t time rises = record { put = λ at since. omega (arith, since, rises); deleted = λ at since. since; split = λ was. was }

-- what is there is deleted later than it was put
deletion-rises : (t : Tables) (time : ℕ) → is_no_time (deletion_after t.put_time t.delete_time) ≡ true → t.put_time < time
    → KeepsTimes (Some t) (Some (record t { delete_time = Some time }))
deletion-rises t time present later = record { put = λ at since. since; deleted = λ at since. by t.delete_time present at since; split = λ was. was }
  where
    not-gone : (gone : ℕ) (b : Bool) → nat_lt t.put_time gone ≡ b → is_no_time (if b then Some gone else None) ≡ true → gone ≤ t.put_time
    not-gone gone true is there = cc
    not-gone gone false is there = not-below t.put_time gone is

    by : (o : Option ℕ) → is_no_time (deletion_after t.put_time o) ≡ true → (at : ℕ) → IsSince o at → at ≤ time
    by None there at since = absurd since
    by (Some gone) there at since =
        let early = not-gone gone (nat_lt t.put_time gone) refl there in omega (arith, since, early, later)

-- rows change no time
rows-still : (t : Tables) (place : Place) (rows : List Row) → KeepsTimes (Some t) (all_entered (Some t) (merging_entries t.rows place rows))
rows-still t place rows = record {
  put = λ time since. subst (λ (x : Option Tables). IsPutSince x time) (sym (merging-leaves t place rows)) since;
  deleted = λ time since. subst (λ (x : Option Tables). IsDeletedSince x time) (sym (merging-leaves t place rows)) since;
  split = λ was. subst IsSplit (sym (merging-leaves t place rows)) was;
}

-- a row that creates its container does so no earlier than it was deleted
created-later : (t : Tables) (row : Row) → is_present (Some t) ≡ false → t.put_time ≤ creation_time (Some t) row
created-later t row absent = by t.delete_time absent
  where
    at : (gone : ℕ) (b : Bool) → nat_lt t.put_time gone ≡ b → is_no_time (if b then Some gone else None) ≡ false
        → t.put_time ≤ max row.created_at (option_map_or (λ g. g) (if b then Some gone else None) 0)
    at gone true is away = let later = below t.put_time gone is in omega (arith, later)
    at gone false is away = cc

    by : (o : Option ℕ) → is_no_time (deletion_after t.put_time o) ≡ false
        → t.put_time ≤ max row.created_at (option_map_or (λ g. g) (deletion_after t.put_time o) 0)
    by None away = cc
    by (Some gone) away = at gone (nat_lt t.put_time gone) refl away

rows-keep : (t : Tables) (place : Place) (rows : List Row) → KeepsTimes (Some t) (all_entered (Some t) (rows_entries (Some t) place rows))
rows-keep t place rows = created (creator (Some t) place rows)
    (λ there. ap (λ (p : Bool). if p then None else (if is_dotted place then first_live rows else None)) there)
  where
    created : (o : Option Row) → (is_present (Some t) ≡ true → o ≡ None)
        → KeepsTimes (Some t) (all_entered (Some t) (created_by (Some t) place o ++ merging_entries t.rows place rows))
    created None none = rows-still t place rows
    created (Some row) none = at (is_present (Some t)) refl
      where
        at : (b : Bool) → is_present (Some t) ≡ b
            → KeepsTimes (Some t) (all_entered (Some t) (Created place (creation_time (Some t) row) ∷ merging_entries t.rows place rows))
        at true there = let never = none there in cc
        at false absent =
            times-on (Some t) (Some (record t { put_time = creation_time (Some t) row })) _
            (put-rises t (creation_time (Some t) row) (created-later t row absent))
            (rows-still (record t { put_time = creation_time (Some t) row }) place rows)

-- nor do ranges, points, and rows that are taken away, and ranges that are there stay
no-time : (t u : Tables) → u.put_time ≡ t.put_time → u.delete_time ≡ t.delete_time → (IsSplit (Some t) → IsSplit (Some u)) → KeepsTimes (Some t) (Some u)
no-time t u put gone stay = record {
  put = λ time since. subst (λ (x : ℕ). time ≤ x) (sym put) since;
  deleted = λ time since. subst (λ (x : Option ℕ). IsSince x time) (sym gone) since;
  split = stay;
}

ranged-keeps : (t : Tables) (o : Option (List Range)) (ranges : List Range) → KeepsTimes (Some t) (Some (ranged t o ranges))
ranged-keeps t None ranges = no-time t (ranged t None ranges) refl refl (λ was. refl)
ranged-keeps t (Some old) ranges = times-same (Some t) (Some t) refl

closed-keeps : (t : Tables) (o : Option (List Range)) → KeepsTimes (Some t) (Some (closed t o))
closed-keeps t None = times-same (Some t) (Some t) refl
closed-keeps t (Some ranges) = by (nat_lt t.cursor (length ranges))
  where
    by : (b : Bool)
        → KeepsTimes (Some t) (Some (if b then record t { ranges = Some (with_state 30 t.cursor ranges); cursor = t.cursor + 1 } else t))
    by true = no-time t (record t { ranges = Some (with_state 30 t.cursor ranges); cursor = t.cursor + 1 }) refl refl (λ was. refl)
    by false = times-same (Some t) (Some t) refl

emptied-keeps : (t : Tables) (o : Option (List Range)) → KeepsTimes (Some t) (Some (emptied t o))
emptied-keeps t None = times-same (Some t) (Some t) refl
emptied-keeps t (Some ranges) = by (nat_lt t.cursor (length ranges))
  where
    gone : Tables
    gone = record t { rows = no_rows_at t.rows.top; ranges = Some (all_in_state 40 ranges); emptied = true }

    by : (b : Bool) → KeepsTimes (Some t) (Some (if b then t else gone))
    by true = times-same (Some t) (Some t) refl
    by false = no-time t gone refl refl (λ was. refl)

-- a change that isn't refused keeps all times
change-keeps : (t : Option Tables) (place : Place) (change : ContChange) → cont_refusal t place change ≡ None → KeepsTimes t (left t place change)
change-keeps None place change allowed = from-none (left None place change)
change-keeps (Some t) place (Create time) allowed = by (nat_lt t.put_time time) refl
  where
    by : (b : Bool) → nat_lt t.put_time time ≡ b → KeepsTimes (Some t) (all_entered (Some t) (if b then Created place time ∷ [] else []))
    by true is = put-rises t time (let later = below t.put_time time is in omega (arith, later))
    by false is = times-same (Some t) (Some t) refl
change-keeps (Some t) place (Remove time) allowed = by (is_no_time (deletion_after t.put_time t.delete_time)) t.ranges refl allowed
  where
    over : (n : ℕ) → removal_refusal_over n t.put_time time ≡ None → t.put_time < time
    over zero is = at (nat_lt t.put_time time) refl is
      where
        at : (b : Bool) → nat_lt t.put_time time ≡ b → (if b then None else Some (answers.Stale t.put_time)) ≡ None → t.put_time < time
        at true later is = below t.put_time time later
        at false later is = cc
    over (suc n) is = cc

    by : (b : Bool) (o : Option (List Range)) → is_no_time (deletion_after t.put_time t.delete_time) ≡ b
        → (if b then removal_refusal_of o (count_of t.rows.list) t.put_time time else Some answers.Absent) ≡ None
        → KeepsTimes (Some t) (Some (record t { delete_time = Some time }))
    by true None present is = deletion-rises t time present (over (count_of t.rows.list) is)
    by true (Some ranges) present is = cc
    by false o present is = cc
change-keeps (Some t) place (MergeRow row) allowed = rows-keep t place (row ∷ [])
change-keeps (Some t) place (MergeRows rows) allowed = rows-keep t place rows
change-keeps (Some t) place (SetRanges ranges) allowed = ranged-keeps t t.ranges ranges
change-keeps (Some t) place (Ack range device rowid) allowed = by (is_above rowid (point_at t.points range device))
  where
    by : (b : Bool) → KeepsTimes (Some t) (all_entered (Some t) (if b then Acked place range device rowid ∷ [] else []))
    by true = no-time t (record t { points = raised t.points range device rowid }) refl refl (λ was. was)
    by false = times-same (Some t) (Some t) refl
change-keeps (Some t) place (CloseRange range devices) allowed = by (nat_lt range t.cursor)
  where
    by : (b : Bool) → KeepsTimes (Some t) (all_entered (Some t) (if b then [] else Closed place range ∷ []))
    by true = times-same (Some t) (Some t) refl
    by false = closed-keeps t t.ranges
change-keeps (Some t) place EmptyOut allowed = by t.emptied
  where
    by : (b : Bool) → KeepsTimes (Some t) (all_entered (Some t) (if b then [] else Emptied place ∷ []))
    by true = times-same (Some t) (Some t) refl
    by false = emptied-keeps t t.ranges
change-keeps (Some t) place (SetSync device rowid) allowed = by (is_above rowid (point_at t.syncs 0 device))
  where
    by : (b : Bool) → KeepsTimes (Some t) (all_entered (Some t) (if b then Synced place device rowid ∷ [] else []))
    by true = no-time t (record t { syncs = with_point t.syncs 0 device rowid }) refl refl (λ was. was)
    by false = times-same (Some t) (Some t) refl

-- ---- what was made of a step

-- nothing, or all of it over the tables that were read, which didn't refuse it
abbrev MadeOf : Bool → Option Tables → Place → ContChange → List ContEntry → Type 0
MadeOf looked read place change made =
    (made ≡ []) ⊎ ((looked ≡ true) × (cont_refusal read place change ≡ None) × (made ≡ entries_for read place change))

module _ (read : Option Tables) (j : ContJournal) (place : Place) (change : ContChange) (answer : ContAnswer) (made : List ContEntry) (after : ContJournal)
  where
    stopped : (failed : Bool) → Stops cont_rules failed read j place change made after → MadeOf true read place change made
    stopped failed st = by st.is_made
      where
        cut : (st.first ≡ []) × (st.here ≡ entries_for read place change)
        cut = one-cut (entries_for read place change) st.first st.here st.behind st.cut

        by : (made ≡ flat st.first) ⊎ ((st.doubted ≡ true) × (made ≡ flat st.first ++ st.here)) → MadeOf true read place change made
        by (inl none) = inl (none ∙ ap flat cut.0)
        by (inr all) =
            inr (refl, st.not_refused, all.1 ∙ (ap (λ (x : List (List ContEntry)). flat x ++ st.here) cut.0 ∙ cut.1))

    seen : (ending : Ending) → EndsSeen cont_rules ending read j place change answer made after → MadeOf true read place change made
    seen Makes d = inr (refl, d.not_refused, d.is_made)
    seen Refuses d = inl d.leaves.not_made
    seen Overflows d = inl d.leaves.not_made
    seen Fails st = stopped true st
    seen Wants st = stopped false st
    seen Damages d = absurd d

    unseen : (ending : Ending) → EndsUnseen cont_rules ending j made after → MadeOf false read place change made
    unseen Makes d = absurd d
    unseen Refuses d = absurd d
    unseen Overflows d = absurd d
    unseen Fails leaves = inl leaves.not_made
    unseen Wants leaves = inl leaves.not_made
    unseen Damages leaves = inl leaves.not_made

    made-of : (looked : Bool) → Answers cont_rules looked read j place change answer made after → MadeOf looked read place change made
    made-of true so = seen (cont_ending answer) so
    made-of false so = unseen (cont_ending answer) so

-- ---- one step

-- a change that isn't refused leaves tables that have it
has-change : (t : Option Tables) (place : Place) (change : ContChange) → cont_refusal t place change ≡ None → HasChange change (left t place change)
has-change None place (Create time) allowed = omega arith
has-change (Some t) place (Create time) allowed = by (nat_lt t.put_time time) refl
  where
    by : (b : Bool) → nat_lt t.put_time time ≡ b → IsPutSince (all_entered (Some t) (if b then Created place time ∷ [] else [])) time
    by true is = omega arith
    by false is = not-below t.put_time time is
has-change None place (Remove time) allowed = cc
has-change (Some t) place (Remove time) allowed = omega arith
has-change t place (MergeRow row) allowed = λ kept. merged-stands t (left t place (MergeRow row)) row (rows-are-merged t place (row ∷ []) allowed).1
has-change t place (MergeRows rows) allowed = tt
has-change t place (SetRanges ranges) allowed = tt
has-change t place (Ack range device rowid) allowed = tt
has-change t place (CloseRange range devices) allowed = tt
has-change t place EmptyOut allowed = tt
has-change t place (SetSync device rowid) allowed = tt

-- what rows are refused by: none of these
abbrev OnlyMerges : Option ContAnswer → Type 0
OnlyMerges (Some (answers.Stale time)) = ⊥
OnlyMerges (Some (answers.NotEmpty count)) = ⊥
OnlyMerges (Some answers.HasRanges) = ⊥
OnlyMerges refusal = ⊤

redirects-only : (t : Option Tables) (rows : List Row) → OnlyMerges (redirection t rows)
redirects-only None rows = tt
redirects-only (Some t) rows = by (first_served t rows)
  where
    by : (shard : Option Place) → OnlyMerges (option_map answers.Redirect shard)
    by None = tt
    by (Some shard) = tt

merges-only : (t : Option Tables) (place : Place) (rows : List Row) → OnlyMerges (merging_refusal t place rows)
merges-only t place rows = by (is_present t) (is_a_row (creator t place rows))
  where
    by : (b c : Bool) → OnlyMerges (if b then redirection t rows else (if c then None else Some answers.Absent))
    by true c = redirects-only t rows
    by false true = tt
    by false false = tt

creates-only : (o : Option ℕ) (time : ℕ) (a : ContAnswer) → stale_creation o time ≡ Some a → (gone : ℕ) × (a ≡ answers.Stale gone)
creates-only None time a is = cc
creates-only (Some gone) time a is = by (nat_lt time gone) is
  where
    by : (b : Bool) → (if b then Some (answers.Stale gone) else None) ≡ Some a → (shown : ℕ) × (a ≡ answers.Stale shown)
    by true is = (gone, cc)
    by false is = cc

-- what ranges are refused by: neither of these
abbrev OnlyRanges : Option ContAnswer → Type 0
OnlyRanges (Some (answers.Stale time)) = ⊥
OnlyRanges (Some (answers.NotEmpty count)) = ⊥
OnlyRanges refusal = ⊤

ranging-only : (t : Option Tables) → OnlyRanges (refusal_over t (λ t. ranging_refusal t.ranges))
ranging-only None = tt
ranging-only (Some t) = by (is_no_time (deletion_after t.put_time t.delete_time)) t.ranges
  where
    by : (b : Bool) (o : Option (List Range)) → OnlyRanges (if b then ranging_refusal o else Some answers.Absent)
    by true None = tt
    by true (Some ranges) = tt
    by false o = tt

-- what is refused because of ranges has some
ranged-split : (t : Option Tables) → refusal_over t (λ t. ranging_refusal t.ranges) ≡ Some answers.HasRanges → IsSplit t
ranged-split None is = cc
ranged-split (Some t) is = by (is_no_time (deletion_after t.put_time t.delete_time)) t.ranges is
  where
    by : (b : Bool) (o : Option (List Range)) → (if b then ranging_refusal o else Some answers.Absent) ≡ Some answers.HasRanges → is_some o ≡ true
    by true None is = cc
    by true (Some ranges) is = refl
    by false o is = cc

-- the other steps on ranges are refused by none of these
over-ranges : (t : Option Tables) (refusal : Tables → List Range → Option ContAnswer) → ((t : Tables) (ranges : List Range) → OnlyMerges (refusal t ranges))
    → OnlyMerges (refusal_over t (λ t. refusal_with t.ranges (λ ranges. refusal t ranges)))
over-ranges None refusal only = tt
over-ranges (Some t) refusal only = by (is_no_time (deletion_after t.put_time t.delete_time)) t.ranges
  where
    by : (b : Bool) (o : Option (List Range)) → OnlyMerges (if b then refusal_with o (λ ranges. refusal t ranges) else Some answers.Absent)
    by true None = tt
    by true (Some ranges) = only t ranges
    by false o = tt

acking-only : (t : Option Tables) → OnlyMerges (refusal_over t (λ t. refusal_with t.ranges (λ ranges. None)))
acking-only t = over-ranges t (λ t ranges. None) (λ t ranges. tt)

closing-only : (t : Option Tables) (range : ℕ) (devices : List ℕ)
    → OnlyMerges (refusal_over t (λ t. refusal_with t.ranges (λ ranges. closing_refusal t ranges range devices)))
closing-only t range devices = over-ranges t (λ t ranges. closing_refusal t ranges range devices) at
  where
    later : (o : Option ℕ) → OnlyMerges (option_map answers.Later o)
    later None = tt
    later (Some number) = tt

    unacked : (t : Tables) (ranges : List Range) (o : Option ℕ) → OnlyMerges (unacked_refusal t ranges range o)
    unacked t ranges None = later (later_row t ranges range)
    unacked t ranges (Some device) = tt

    at : (t : Tables) (ranges : List Range) → OnlyMerges (closing_refusal t ranges range devices)
    at t ranges = by (nat_lt range t.cursor) ((range == t.cursor) && nat_lt range (length ranges))
      where
        by : (b c : Bool) → OnlyMerges
            (if b then None else (if c then unacked_refusal t ranges range (not_acked t.points range devices) else Some (answers.StillOpen t.cursor)))
        by true c = tt
        by false true = unacked t ranges (not_acked t.points range devices)
        by false false = tt

emptying-only : (t : Option Tables) → OnlyMerges (refusal_over t (λ t. refusal_with t.ranges (λ ranges. emptying_refusal t ranges)))
emptying-only t = over-ranges t emptying_refusal at
  where
    at : (t : Tables) (ranges : List Range) → OnlyMerges (emptying_refusal t ranges)
    at t ranges = by (nat_lt t.cursor (length ranges))
      where
        by : (b : Bool) → OnlyMerges (if b then Some (answers.StillOpen t.cursor) else None)
        by true = tt
        by false = tt

-- tables that refuse a change as too early are as late
stale-late : (t : Option Tables) (place : Place) (change : ContChange) (time : ℕ)
    → cont_refusal t place change ≡ Some (answers.Stale time) → IsLateFor (reply_to (made_status change) (answers.Stale time)) change t
stale-late t place (Create time) shown refused = by t refused
  where
    at : (gone : ℕ) (b : Bool) → nat_lt time gone ≡ b → (if b then Some (answers.Stale gone) else None) ≡ Some (answers.Stale shown)
        → (time < shown) × (gone ≡ shown)
    at gone true less same = let one : gone ≡ shown = cc in let later = below time gone less in (omega (arith, one, later), one)
    at gone false less same = cc

    stale : (o : Option ℕ) → stale_creation o time ≡ Some (answers.Stale shown) → (time < shown) × (o ≡ Some shown)
    stale None is = cc
    stale (Some gone) is = let found = at gone (nat_lt time gone) refl is in (found.0, ap Some found.1)

    gone-at : (put : ℕ) (o : Option ℕ) → deletion_after put o ≡ Some shown → IsSince o shown
    gone-at put None is = cc
    gone-at put (Some gone) is = over (nat_lt put gone) is
      where
        over : (b : Bool) → (if b then Some gone else None) ≡ Some shown → shown ≤ gone
        over true is = let one : gone ≡ shown = cc in omega (arith, one)
        over false is = cc

    by : (x : Option Tables) → stale_creation (deletion x) time ≡ Some (answers.Stale shown)
        → (gone : ℕ) × (reply_to 201 (answers.Stale shown) ≡ reply_to 201 (answers.Stale gone)) × (time < gone) × IsDeletedSince x gone
    by None is = cc
    by (Some tables) is =
        let found = stale (deletion (Some tables)) is in (shown, refl, found.0, gone-at tables.put_time tables.delete_time found.1)
stale-late None place (Remove time) shown refused = cc
stale-late (Some t) place (Remove time) shown refused = by (is_no_time (deletion_after t.put_time t.delete_time)) t.ranges refused
  where
    over : (n : ℕ) → removal_refusal_over n t.put_time time ≡ Some (answers.Stale shown) → (time ≤ shown) × (shown ≤ t.put_time)
    over zero is = at (nat_lt t.put_time time) refl is
      where
        at : (b : Bool) → nat_lt t.put_time time ≡ b → (if b then None else Some (answers.Stale t.put_time)) ≡ Some (answers.Stale shown)
            → (time ≤ shown) × (shown ≤ t.put_time)
        at true less is = cc
        at false less is =
            let one : t.put_time ≡ shown = cc in let much = not-below t.put_time time less in (omega (arith, one, much), omega (arith, one))
    over (suc n) is = cc

    by : (b : Bool) (o : Option (List Range))
        → (if b then removal_refusal_of o (count_of t.rows.list) t.put_time time else Some answers.Absent) ≡ Some (answers.Stale shown)
        → IsLateFor (reply_to 204 (answers.Stale shown)) (Remove time) (Some t)
    by true None is = let found = over (count_of t.rows.list) is in inr (shown, refl, found.0, found.1)
    by true (Some ranges) is = cc
    by false o is = cc
stale-late t place (MergeRow row) shown refused = absurd (subst OnlyMerges refused (merges-only t place (row ∷ [])))
stale-late t place (MergeRows rows) shown refused = absurd (subst OnlyMerges refused (merges-only t place rows))
stale-late t place (SetRanges ranges) shown refused = absurd (subst OnlyRanges refused (ranging-only t))
stale-late t place (Ack range device rowid) shown refused = absurd (subst OnlyMerges refused (acking-only t))
stale-late t place (CloseRange range devices) shown refused = absurd (subst OnlyMerges refused (closing-only t range devices))
stale-late t place EmptyOut shown refused = absurd (subst OnlyMerges refused (emptying-only t))
stale-late t place (SetSync device rowid) shown refused = absurd (not-stale (is_present t) refused)
  where
    not-stale : (b : Bool) → (if b then None else Some answers.Absent) ≡ Some (answers.Stale shown) → ⊥
    not-stale true is = cc
    not-stale false is = cc

-- only a deletion is refused because of live rows, and only that and ranges because of ranges
full-late : (t : Option Tables) (place : Place) (change : ContChange) (count : ℕ)
    → cont_refusal t place change ≡ Some (answers.NotEmpty count) → IsLateFor (bare 409) change t
full-late t place (Create time) count refused =
    let one = creates-only (deletion t) time (answers.NotEmpty count) refused in
    let no : answers.NotEmpty count ≡ answers.Stale one.0 = one.1 in cc
full-late t place (Remove time) count refused = inl refl
full-late t place (MergeRow row) count refused = absurd (subst OnlyMerges refused (merges-only t place (row ∷ [])))
full-late t place (MergeRows rows) count refused = absurd (subst OnlyMerges refused (merges-only t place rows))
full-late t place (SetRanges ranges) count refused = absurd (subst OnlyRanges refused (ranging-only t))
full-late t place (Ack range device rowid) count refused = absurd (subst OnlyMerges refused (acking-only t))
full-late t place (CloseRange range devices) count refused = absurd (subst OnlyMerges refused (closing-only t range devices))
full-late t place EmptyOut count refused = absurd (subst OnlyMerges refused (emptying-only t))
full-late t place (SetSync device rowid) count refused = absurd (not-full (is_present t) refused)
  where
    not-full : (b : Bool) → (if b then None else Some answers.Absent) ≡ Some (answers.NotEmpty count) → ⊥
    not-full true is = cc
    not-full false is = cc

ranged-late : (t : Option Tables) (place : Place) (change : ContChange)
    → cont_refusal t place change ≡ Some answers.HasRanges → IsLateFor (bare 409) change t
ranged-late t place (Create time) refused =
    let one = creates-only (deletion t) time answers.HasRanges refused in
    let no : answers.HasRanges ≡ answers.Stale one.0 = one.1 in cc
ranged-late t place (Remove time) refused = inl refl
ranged-late t place (MergeRow row) refused = absurd (subst OnlyMerges refused (merges-only t place (row ∷ [])))
ranged-late t place (MergeRows rows) refused = absurd (subst OnlyMerges refused (merges-only t place rows))
ranged-late t place (SetRanges ranges) refused = (refl, ranged-split t refused)
ranged-late t place (Ack range device rowid) refused = absurd (subst OnlyMerges refused (acking-only t))
ranged-late t place (CloseRange range devices) refused = absurd (subst OnlyMerges refused (closing-only t range devices))
ranged-late t place EmptyOut refused = absurd (subst OnlyMerges refused (emptying-only t))
ranged-late t place (SetSync device rowid) refused = absurd (not-ranged (is_present t) refused)
  where
    not-ranged : (b : Bool) → (if b then None else Some answers.Absent) ≡ Some answers.HasRanges → ⊥
    not-ranged true is = cc
    not-ranged false is = cc

-- the status that tells that a change was made is no 409
made-not-late : (change : ContChange) → made_status change ≡ 409 → ⊥
made-not-late (Create time) is = omega (arith, is)
made-not-late (Remove time) is = omega (arith, is)
made-not-late (MergeRow row) is = by row.deleted is
  where
    by : (b : Bool) → ◌≡◌ {A = ℕ} (if b then 204 else 201) 409 → ⊥
    by true is = omega (arith, is)
    by false is = omega (arith, is)
made-not-late (MergeRows rows) is = omega (arith, is)
made-not-late (SetRanges ranges) is = omega (arith, is)
made-not-late (Ack range device rowid) is = omega (arith, is)
made-not-late (CloseRange range devices) is = omega (arith, is)
made-not-late EmptyOut is = omega (arith, is)
made-not-late (SetSync device rowid) is = omega (arith, is)

-- a reply that tells nothing of a change
pub silent : (response : Response) (change : ContChange) (t : Option Tables) → tells_made response.status ≡ false → (response.status ≡ 409 → ⊥)
    → TablesBearOut response change t
silent response change t unmade not_late = record { made = λ is. absurd (apart is); late = λ is. absurd (not_late is) }
  where
    apart : tells_made response.status ≡ true → ⊥
    apart is = cc

-- one that sends a client on does neither
sent-on : (change : ContChange) (shard : Place) (t : Option Tables) → TablesBearOut (redirect_reply change shard) change t
sent-on (Create time) shard t = silent _ (Create time) t refl (λ late. omega (arith, late))
sent-on (Remove time) shard t = silent _ (Remove time) t refl (λ late. omega (arith, late))
sent-on (MergeRow row) shard t = silent _ (MergeRow row) t refl (λ late. omega (arith, late))
sent-on (MergeRows rows) shard t = silent _ (MergeRows rows) t refl (λ late. omega (arith, late))
sent-on (SetRanges ranges) shard t = silent _ (SetRanges ranges) t refl (λ late. omega (arith, late))
sent-on (Ack range device rowid) shard t = silent _ (Ack range device rowid) t refl (λ late. omega (arith, late))
sent-on (CloseRange range devices) shard t = silent _ (CloseRange range devices) t refl (λ late. omega (arith, late))
sent-on EmptyOut shard t = silent _ EmptyOut t refl (λ late. omega (arith, late))
sent-on (SetSync device rowid) shard t = silent _ (SetSync device rowid) t refl (λ late. omega (arith, late))

module _ (alone : Bool) (is_alone : alone ≡ true) (h : ContHistory) (s : Place → Option Tables) (place : Place) (change : ContChange)
    (answer : ContAnswer) (g : ContHistory) (t : Option Tables)
    (step : ChangesContainer alone h s place change answer g t) (told : h.told ≡ true) where
  told-before : step.before.told ≡ true
  told-before = step.follows.told ∙ told

  -- where all of it was made, its tables are those that a change leaves
  leaves-all : step.looked ≡ true → step.made ≡ entries_for step.read place change → t ≡ left step.read place change
  leaves-all looked all =
      step.leaves is_alone told-before
      ∙ (ap (λ (x : Option Tables). fold entered x step.made) (sym (step.held is_alone told-before looked))
      ∙ ap (λ (es : List ContEntry). fold entered step.read es) all)

  leaves-none : step.looked ≡ true → step.made ≡ [] → t ≡ step.read
  leaves-none looked none =
      step.leaves is_alone told-before
      ∙ (ap (λ (es : List ContEntry). fold entered (s place) es) none ∙ sym (step.held is_alone told-before looked))

  pub step-keeps : KeepsTimes (s place) t
  step-keeps = by (made-of step.read step.before.journal place change answer step.made g.journal step.looked step.answered)
    where
      by : MadeOf step.looked step.read place change step.made → KeepsTimes (s place) t
      by (inl none) = times-same (s place) t (step.leaves is_alone told-before ∙ ap (λ (es : List ContEntry). fold entered (s place) es) none)
      by (inr all) =
          subst (λ (x : Option Tables). KeepsTimes (s place) x) (sym (leaves-all all.0 all.2))
          (subst (λ (x : Option Tables). KeepsTimes x (left step.read place change)) (step.held is_alone told-before all.0)
          (change-keeps step.read place change all.1))

  abbrev Bears : ContAnswer → Type 0
  Bears a = TablesBearOut (change_reply change a) change t

  when-made : (a : ContAnswer) → ((change_reply change a).status ≡ 409 → ⊥) → step.looked ≡ true
      → cont_refusal step.read place change ≡ None → step.made ≡ entries_for step.read place change → Bears a
  when-made a not_late looked allowed all = record {
    made = λ tells. subst (HasChange change) (sym (leaves-all looked all)) (has-change step.read place change allowed);
    late = λ late. absurd (not_late late);
  }

  when-late : (a : ContAnswer) → tells_made (change_reply change a).status ≡ false → step.looked ≡ true → step.made ≡ []
      → IsLateFor (change_reply change a) change step.read → Bears a
  when-late a unmade looked none late = record {
    made = λ is. absurd (apart is);
    late = λ is. subst (IsLateFor (change_reply change a) change) (sym (leaves-none looked none)) late;
  }
    where
      apart : tells_made (change_reply change a).status ≡ true → ⊥
      apart is = cc

  by-answer : (a : ContAnswer) (looked : Bool) → step.looked ≡ looked
      → Answers cont_rules looked step.read step.before.journal place change a step.made g.journal → Bears a
  by-answer (answers.New front) true is d = when-made (answers.New front) (λ late. omega (arith, late)) is d.not_refused d.is_made
  by-answer (answers.New front) false is none = absurd none
  by-answer (answers.There front) true is d = when-made (answers.There front) (λ late. omega (arith, late)) is d.not_refused d.is_made
  by-answer (answers.There front) false is none = absurd none
  by-answer (answers.Done front) true is d = when-made (answers.Done front) (made-not-late change) is d.not_refused d.is_made
  by-answer (answers.Done front) false is none = absurd none
  by-answer (answers.Stale time) true is d =
      when-late (answers.Stale time) refl is d.leaves.not_made (stale-late step.read place change time d.refused)
  by-answer (answers.Stale time) false is none = absurd none
  by-answer (answers.NotEmpty count) true is d =
      when-late (answers.NotEmpty count) refl is d.leaves.not_made (full-late step.read place change count d.refused)
  by-answer (answers.NotEmpty count) false is none = absurd none
  by-answer answers.HasRanges true is d =
      when-late answers.HasRanges refl is d.leaves.not_made (ranged-late step.read place change d.refused)
  by-answer answers.HasRanges false is none = absurd none
  by-answer (answers.Redirect shard) looked is said = sent-on change shard t
  by-answer answers.NoRanges looked is said = silent _ change t refl (λ late. omega (arith, late))
  by-answer (answers.StillOpen cursor) looked is said = silent _ change t refl (λ late. omega (arith, late))
  by-answer (answers.Later number) looked is said = silent _ change t refl (λ late. omega (arith, late))
  by-answer (answers.NotAcked lagging) looked is said = silent _ change t refl (λ late. omega (arith, late))
  by-answer answers.Absent looked is said = silent _ change t refl (λ late. omega (arith, late))
  by-answer answers.JournalFull looked is said = silent _ change t refl (λ late. omega (arith, late))
  by-answer answers.Failed looked is said = silent _ change t refl (λ late. omega (arith, late))
  by-answer answers.NoMemory looked is said = silent _ change t refl (λ late. omega (arith, late))

  pub bears : Bears answer
  bears = by-answer answer step.looked refl step.answered

pub changes-stand : ChangesStand
changes-stand s t device place change response alone (answer, stepped, is) told =
    subst (λ (r : Response). TablesBearOut r change (t.containers.holds device place)) (sym is)
    (subst (λ (x : Option Tables). TablesBearOut (change_reply change answer) change x)
    (ap (λ (x : Sight). x.containers.holds device place) (sym came.2.same))
    (bears (came.0).alone still (s.containers.seen (cont_lock s.nodes device place)) (came.1).step.held place change answer
    ((came.0).containers.seen (cont_lock s.nodes device place)) ((came.0).containers.holds device place) (came.1).step.step told))
  where
    came : (mid : Sight) × IsContMade Local device place change s answer mid × IsSame mid t
    came = once (IsContMade Local device place change) s answer t stepped.called

    still : (came.0).alone ≡ true
    still = sym (ap (λ (x : Sight). x.alone) came.2.same) ∙ alone
