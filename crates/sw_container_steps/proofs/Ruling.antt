-- The rules of containers are rules.
use Rattle.std.proofs.Common.{◌≡◌, ℕ, zero, suc, Bool, true, false, ◌&&◌, ◌==◌, nat_lt, List, [], ◌∷◌, ◌++◌, length}
use Rattle.std.proofs.Common.{Option, None, Some, ◌⊎◌, inl, inr, refl, sym, ◌∙◌, ap, subst}
use Rattle.std.proofs.Common.{if◌then◌else◌}
use Rattle.std.specs.Bool.{⊤}
use Rattle.std.specs.Option.{option_map}
use Rattle.sw_hashpath.specs.declared.place.Place.{Place}
use Rattle.sw_keeper.specs.declared.tables.Tables.{Tables}
use Rattle.sw_rows.specs.Sums.{count_of}
use Rattle.sw_rows.specs.declared.row.Row.{Row}
use Rattle.sw_shard_range.specs.declared.range.Range.{Range}
use Rattle.sw_step.specs.Journals.{flat}
use Rattle.sw_step.specs.Rules.{AllAt, AreOf, Damages, Ending, Fails, Makes, Overflows, Refuses, Wants, is_about}
use Rattle.sw_step.specs.Steps.{Answers, EndsSeen, EndsUnseen, Stops}
use Rattle.sw_container_steps.proofs.Placing.{entries-at, place-same, place-self}
use Rattle.sw_container_steps.specs.Entries.{is_same_place, place_in}
use Rattle.sw_container_steps.specs.Laws.{ContainersAreRules}
use Rattle.sw_container_steps.specs.Presence.{deletion, deletion_after, is_no_time, is_present}
use Rattle.sw_container_steps.specs.Rules.{ContJournal, cont_ending, cont_rules, one_batch}
use Rattle.sw_container_steps.specs.Steps.{cont_made_answer, cont_refusal, creation_answer, creator, entries_for, is_a_row}
use Rattle.sw_container_steps.specs.Serving.{first_served}
use Rattle.sw_container_steps.specs.Steps.{closing_refusal, emptying_refusal, later_row, not_acked, ranging_refusal, redirection, refusal_over, refusal_with}
use Rattle.sw_container_steps.specs.Steps.{removal_refusal_of, stale_creation, unacked_refusal}
use Rattle.sw_container_steps.specs.declared.cont_answer.ContAnswer.{ContAnswer}
use Rattle.sw_container_steps.specs.declared.cont_answer.ContAnswer.TheVariants as answers
use Rattle.sw_container_steps.specs.declared.cont_change.ContChange.{ContChange}
use Rattle.sw_container_steps.specs.declared.cont_change.ContChange.TheVariants.{Create, Remove, MergeRow, MergeRows, SetRanges, Ack, CloseRange}
use Rattle.sw_container_steps.specs.declared.cont_change.ContChange.TheVariants.{EmptyOut, SetSync}
use Rattle.sw_container_steps.specs.declared.cont_entry.ContEntry.{ContEntry}

never : true ≡ false → ⊥
never is = cc

batch-at : (place : Place) (es : List ContEntry) → AllAt cont_rules place es → AreOf cont_rules place (one_batch es)
batch-at place [] all = tt
batch-at place (e ∷ es) all = (record { is = here; all = all }, tt)
  where
    here : is_about cont_rules place (e ∷ es) ≡ true
    here = let one : is_same_place (place_in e) place ≡ true = subst (λ (p : Place). is_same_place p place ≡ true) (sym all.0) (place-self place) in rw one refl

pub are-rules : ContainersAreRules
are-rules = record {
  keys = place-same;
  itself = place-self;
  reached = λ place. refl;
  own = λ t place change is. entries-at t place change;
  own_changes = λ t place change is. batch-at place (entries_for t place change) (entries-at t place change);
  apart = λ v w place change d allowed is. absurd (never is);
  apart_first = λ v w place change d first behind allowed is cut. absurd (never is);
}

-- ---- how answers end

pub never-damaged : (answer : ContAnswer) → cont_ending answer ≡ Damages → ⊥
never-damaged (answers.New front) is = cc
never-damaged (answers.There front) is = cc
never-damaged (answers.Done front) is = cc
never-damaged answers.Absent is = cc
never-damaged (answers.Stale time) is = cc
never-damaged (answers.NotEmpty count) is = cc
never-damaged answers.HasRanges is = cc
never-damaged answers.NoRanges is = cc
never-damaged (answers.Redirect shard) is = cc
never-damaged (answers.StillOpen range) is = cc
never-damaged (answers.Later rowid) is = cc
never-damaged (answers.NotAcked device) is = cc
never-damaged answers.JournalFull is = cc
never-damaged answers.Failed is = cc
never-damaged answers.NoMemory is = cc

pub made-ends : (t : Option Tables) (change : ContChange) (front : ℕ) → cont_ending (cont_made_answer t change front) ≡ Makes
made-ends t (Create time) front = by (is_present t)
  where
    by : (b : Bool) → cont_ending (creation_answer b front) ≡ Makes
    by true = refl
    by false = refl
made-ends t (Remove time) front = refl
made-ends t (MergeRow row) front = refl
made-ends t (MergeRows rows) front = refl
made-ends t (SetRanges ranges) front = refl
made-ends t (Ack range device rowid) front = refl
made-ends t (CloseRange range devices) front = refl
made-ends t EmptyOut front = refl
made-ends t (SetSync device rowid) front = refl

abbrev EndsSo : Option ContAnswer → Type 0
EndsSo None = ⊤
EndsSo (Some answer) = cont_ending answer ≡ Refuses

redirection-so : (t : Option Tables) (rows : List Row) → EndsSo (redirection t rows)
redirection-so None rows = tt
redirection-so (Some t) rows = by (first_served t rows)
  where
    by : (shard : Option Place) → EndsSo (option_map answers.Redirect shard)
    by None = tt
    by (Some shard) = refl

rows-so : (t : Option Tables) (rows : List Row) (b c : Bool)
    → EndsSo (if b then redirection t rows else if c then None else Some answers.Absent)
rows-so t rows true c = redirection-so t rows
rows-so t rows false true = tt
rows-so t rows false false = refl

over-so : (t : Option Tables) (refusal : Tables → Option ContAnswer) → ((t : Tables) → EndsSo (refusal t)) → EndsSo (refusal_over t refusal)
over-so None refusal so = refl
over-so (Some t) refusal so = by (is_no_time (deletion_after t.put_time t.delete_time))
  where
    by : (b : Bool) → EndsSo (if b then refusal t else Some answers.Absent)
    by true = so t
    by false = refl

with-so : (o : Option (List Range)) (refusal : List Range → Option ContAnswer) → ((ranges : List Range) → EndsSo (refusal ranges))
    → EndsSo (refusal_with o refusal)
with-so None refusal so = refl
with-so (Some ranges) refusal so = so ranges

ranging-so : (o : Option (List Range)) → EndsSo (ranging_refusal o)
ranging-so None = tt
ranging-so (Some ranges) = refl

unacked-so : (t : Tables) (ranges : List Range) (range : ℕ) (device : Option ℕ) → EndsSo (unacked_refusal t ranges range device)
unacked-so t ranges range (Some device) = refl
unacked-so t ranges range None = by (later_row t ranges range)
  where
    by : (later : Option ℕ) → EndsSo (option_map answers.Later later)
    by None = tt
    by (Some rowid) = refl

closing-so : (t : Tables) (range : ℕ) (devices : List ℕ) (ranges : List Range) → EndsSo (closing_refusal t ranges range devices)
closing-so t range devices ranges =
    by (nat_lt range t.cursor) ((range == t.cursor) && nat_lt range (length ranges)) (unacked-so t ranges range (not_acked t.points range devices))
  where
    by : (b c : Bool) → EndsSo (unacked_refusal t ranges range (not_acked t.points range devices))
        → EndsSo (if b then None else if c then unacked_refusal t ranges range (not_acked t.points range devices) else Some (answers.StillOpen t.cursor))
    by true c so = tt
    by false true so = so
    by false false so = refl

emptying-so : (t : Tables) (ranges : List Range) → EndsSo (emptying_refusal t ranges)
emptying-so t ranges = by (nat_lt t.cursor (length ranges))
  where
    by : (b : Bool) → EndsSo (if b then Some (answers.StillOpen t.cursor) else None)
    by true = refl
    by false = tt

ends-so : (t : Option Tables) (place : Place) (change : ContChange) → EndsSo (cont_refusal t place change)
ends-so t place (Create time) = by (deletion t)
  where
    by : (gone : Option ℕ) → EndsSo (stale_creation gone time)
    by None = tt
    by (Some gone) = at (nat_lt time gone)
      where
        at : (b : Bool) → EndsSo (if b then Some (answers.Stale gone) else None)
        at true = refl
        at false = tt
ends-so None place (Remove time) = refl
ends-so (Some t) place (Remove time) = by (is_no_time (deletion_after t.put_time t.delete_time)) t.ranges (count_of t.rows.list)
  where
    by : (b : Bool) (o : Option (List Range)) (n : ℕ) → EndsSo (if b then removal_refusal_of o n t.put_time time else Some answers.Absent)
    by false o n = refl
    by true (Some ranges) n = refl
    by true None (suc n) = refl
    by true None zero = at (nat_lt t.put_time time)
      where
        at : (b : Bool) → EndsSo (if b then None else Some (answers.Stale t.put_time))
        at true = tt
        at false = refl
ends-so t place (MergeRow row) = rows-so t (row ∷ []) (is_present t) (is_a_row (creator t place (row ∷ [])))
ends-so t place (MergeRows rows) = rows-so t rows (is_present t) (is_a_row (creator t place rows))
ends-so t place (SetRanges ranges) = over-so t (λ t. ranging_refusal t.ranges) (λ t. ranging-so t.ranges)
ends-so t place (Ack range device rowid) = over-so t (λ t. refusal_with t.ranges (λ ranges. None)) (λ t. with-so t.ranges (λ ranges. None) (λ ranges. tt))
ends-so t place (CloseRange range devices) =
    over-so t (λ t. refusal_with t.ranges (λ ranges. closing_refusal t ranges range devices))
    (λ t. with-so t.ranges (λ ranges. closing_refusal t ranges range devices) (closing-so t range devices))
ends-so t place EmptyOut =
    over-so t (λ t. refusal_with t.ranges (λ ranges. emptying_refusal t ranges))
    (λ t. with-so t.ranges (λ ranges. emptying_refusal t ranges) (emptying-so t))
ends-so t place (SetSync device rowid) = by (is_present t)
  where
    by : (b : Bool) → EndsSo (if b then None else Some answers.Absent)
    by true = tt
    by false = refl

pub refusal-ends : (t : Option Tables) (place : Place) (change : ContChange) (answer : ContAnswer) → cont_refusal t place change ≡ Some answer
    → cont_ending answer ≡ Refuses
refusal-ends t place change answer is = subst EndsSo is (ends-so t place change)

-- ---- a batch is one change

no-list : {A : Type 0} (xs : List A) (x : A) (ys : List A) → [] ≡ xs ++ x ∷ ys → ⊥
no-list [] x ys is = cc
no-list (z ∷ xs) x ys is = cc

one-list : {A : Type 0} (d : A) (front : List A) (x : A) (behind : List A) → d ∷ [] ≡ front ++ x ∷ behind → (front ≡ []) × (x ≡ d)
one-list d [] x behind is = (refl, cc)
one-list d (y ∷ front) x behind is = let rest : [] ≡ front ++ x ∷ behind = cc in absurd (no-list front x behind rest)

pub one-cut : (es : List ContEntry) (first : List (List ContEntry)) (here : List ContEntry) (behind : List (List ContEntry))
    → one_batch es ≡ first ++ here ∷ behind → (first ≡ []) × (here ≡ es)
one-cut [] first here behind is = absurd (no-list first here behind is)
one-cut (e ∷ es) first here behind is = one-list (e ∷ es) first here behind is

-- what was made of a step is all of its entries, or nothing
pub made-whole : (looked : Bool) (read : Option Tables) (j : ContJournal) (place : Place) (change : ContChange) (answer : ContAnswer) (made : List ContEntry)
    (after : ContJournal) → Answers cont_rules looked read j place change answer made after
    → (made ≡ []) ⊎ ((looked ≡ true) × (made ≡ entries_for read place change))
made-whole looked read j place change answer made after so = by looked (cont_ending answer) refl so
  where
    stopped : (failed : Bool) → Stops cont_rules failed read j place change made after → (made ≡ []) ⊎ (made ≡ entries_for read place change)
    stopped failed st = by st.is_made
      where
        cut : (st.first ≡ []) × (st.here ≡ entries_for read place change)
        cut = one-cut (entries_for read place change) st.first st.here st.behind st.cut

        by : (made ≡ flat st.first) ⊎ ((st.doubted ≡ true) × (made ≡ flat st.first ++ st.here)) → (made ≡ []) ⊎ (made ≡ entries_for read place change)
        by (inl none) = inl (none ∙ ap flat cut.0)
        by (inr all) = inr (all.1 ∙ (ap (λ (f : List (List ContEntry)). flat f ++ st.here) cut.0 ∙ cut.1))

    seen : (e : Ending) → EndsSeen cont_rules e read j place change answer made after → (made ≡ []) ⊎ (made ≡ entries_for read place change)
    seen Makes so = inr so.is_made
    seen Refuses so = inl so.leaves.not_made
    seen Overflows so = inl so.leaves.not_made
    seen Fails so = stopped true so
    seen Wants so = stopped false so
    seen Damages so = absurd so

    unseen : (e : Ending) → EndsUnseen cont_rules e j made after → made ≡ []
    unseen Fails so = so.not_made
    unseen Wants so = so.not_made
    unseen Damages so = so.not_made
    unseen Makes so = absurd so
    unseen Refuses so = absurd so
    unseen Overflows so = absurd so

    by : (b : Bool) (e : Ending) → looked ≡ b → Answers cont_rules b read j place change answer made after
        → (made ≡ []) ⊎ ((looked ≡ true) × (made ≡ entries_for read place change))
    by true e is so = elim (seen (cont_ending answer) so) [ inl none ↦ inl none | inr all ↦ inr (is, all) ]
    by false e is so = inl (unseen (cont_ending answer) so)
