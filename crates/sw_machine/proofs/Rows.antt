-- The rows of a step at a container that was made are merged into those that stood.
use Rattle.std.proofs.Common.{◌≡◌, ◌+◌, Bool, true, false, cond, nat_lt, List, [], ◌∷◌, ◌++◌, length, map, None, Some, Option, ◌⊎◌, inl, inr, refl, sym}
use Rattle.std.proofs.Common.{◌∙◌, ap}
use Rattle.std.proofs.Common.{if◌then◌else◌, subst, true≢false}
use Rattle.std.proofs.lemmas.Bool.{cases_Bool}
use Rattle.std.specs.List.{fold}
use Rattle.sw_container_steps.proofs.Leaving.{rows-are-merged}
use Rattle.sw_container_steps.proofs.Ruling.{one-cut}
use Rattle.sw_container_steps.specs.Entries.{all_entered, closed, emptied, entered, ranged, rows_of}
use Rattle.sw_container_steps.specs.Laws.{left}
use Rattle.sw_container_steps.specs.Presence.{deletion_after, is_no_time}
use Rattle.sw_container_steps.specs.Rules.{ContHistory, ContJournal, cont_ending, cont_rules, one_batch}
use Rattle.sw_container_steps.specs.Steps.{cont_refusal, emptying_refusal, entries_for, refusal_with}
use Rattle.sw_container_steps.specs.declared.cont_answer.ContAnswer.{ContAnswer}
use Rattle.sw_container_steps.specs.declared.cont_answer.ContAnswer.TheVariants as answers
use Rattle.sw_container_steps.specs.declared.cont_change.ContChange.{ContChange}
use Rattle.sw_container_steps.specs.declared.cont_change.ContChange.TheVariants.{Create, Remove, MergeRow, MergeRows, SetRanges, Ack, CloseRange}
use Rattle.sw_container_steps.specs.declared.cont_change.ContChange.TheVariants.{EmptyOut, SetSync}
use Rattle.sw_container_steps.specs.declared.cont_entry.ContEntry.{ContEntry}
use Rattle.sw_container_steps.specs.declared.cont_entry.ContEntry.TheVariants.{Created, Removed, Merged, Ranged, Acked, Closed, Emptied, Synced}
use Rattle.sw_hashpath.specs.declared.place.Place.{Place}
use Rattle.sw_keeper.specs.declared.tables.Tables.{Tables}
use Rattle.sw_rows.specs.Rows.{merged, no_rows_at}
use Rattle.sw_rows.specs.declared.row.Row.{Row}
use Rattle.sw_shard_range.specs.States.{all_in_state, with_state}
use Rattle.sw_shard_range.specs.declared.range.Range.{Range}
use Rattle.sw_step.specs.Journals.{flat}
use Rattle.sw_step.specs.Rules.{Damages, Ending, Fails, Makes, Overflows, Refuses, Wants, has_made}
use Rattle.sw_step.specs.Steps.{Answers, EndsSeen, EndsUnseen, StepChanges, Stops}
use Rattle.sw_sync.specs.Points.{is_above, point_at}
use Rattle.sw_machine.specs.Machine.{KnownRow, empties, is_emptied, made_rows, rows_in, was_made}

-- where there is nothing to enter there is no change at which it could have stopped
no-batch : (first : List (List ContEntry)) (here : List ContEntry) (behind : List (List ContEntry)) → one_batch [] ≡ first ++ here ∷ behind → ⊥
no-batch [] here behind is = cc
no-batch (f ∷ first) here behind is = cc

-- all of it was made, over the tables that were read
pub record IsAllMade (answer : ContAnswer) (saw : Bool) (read : Option Tables) (place : Place) (change : ContChange) (made : List ContEntry) : Type 0 where
  pub looked : saw ≡ true
  pub allowed : cont_refusal read place change ≡ None
  pub all : made ≡ entries_for read place change
  pub was : was_made answer made ≡ true

-- or nothing was
abbrev MayBeMade : ContAnswer → Bool → Option Tables → Place → ContChange → List ContEntry → Type 0
MayBeMade answer saw read place change made =
    ((made ≡ []) × (has_made (cont_ending answer) ≡ false)) ⊎ IsAllMade answer saw read place change made

module _ (read : Option Tables) (j : ContJournal) (place : Place) (change : ContChange) (answer : ContAnswer) (made : List ContEntry) (after : ContJournal)
  where
    abbrev Result : Bool → Type 0
    Result saw = MayBeMade answer saw read place change made

    nothing : (saw : Bool) (ending : Ending) → cont_ending answer ≡ ending → has_made ending ≡ false → made ≡ [] → Result saw
    nothing saw ending is isnt none = inl (none, ap has_made is ∙ isnt)

    stopped : (failed : Bool) (ending : Ending) → cont_ending answer ≡ ending → has_made ending ≡ false → Stops cont_rules failed read j place change made after
        → Result true
    stopped failed ending is isnt st = by st.is_made
      where
        cut : (st.first ≡ []) × (st.here ≡ entries_for read place change)
        cut = one-cut (entries_for read place change) st.first st.here st.behind st.cut

        some : (es : List ContEntry) → one_batch es ≡ st.first ++ st.here ∷ st.behind → was_made answer es ≡ true
        some [] none = absurd (no-batch st.first st.here st.behind none)
        some (e ∷ es) same = refl

        by : (made ≡ flat st.first) ⊎ ((st.doubted ≡ true) × (made ≡ flat st.first ++ st.here)) → Result true
        by (inl none) = nothing true ending is isnt (none ∙ ap flat cut.0)
        by (inr so) =
            let all : made ≡ entries_for read place change = so.1 ∙ (ap (λ (x : List (List ContEntry)). flat x ++ st.here) cut.0 ∙ cut.1) in
            inr (record {
              looked = refl;
              allowed = st.not_refused;
              all = all;
              was = ap (was_made answer) all ∙ some (entries_for read place change) st.cut;
            })

    seen : (ending : Ending) → cont_ending answer ≡ ending → EndsSeen cont_rules ending read j place change answer made after → Result true
    seen Makes is d = inr (record { looked = refl; allowed = d.not_refused; all = d.is_made; was = was made })
      where
        was : (es : List ContEntry) → was_made answer es ≡ true
        was [] = ap has_made is
        was (e ∷ es) = refl
    seen Refuses is d = nothing true Refuses is refl d.leaves.not_made
    seen Overflows is d = nothing true Overflows is refl d.leaves.not_made
    seen Fails is st = stopped true Fails is refl st
    seen Wants is st = stopped false Wants is refl st
    seen Damages is d = absurd d

    unseen : (ending : Ending) → cont_ending answer ≡ ending → EndsUnseen cont_rules ending j made after → Result false
    unseen Makes is d = absurd d
    unseen Refuses is d = absurd d
    unseen Overflows is d = absurd d
    unseen Fails is leaves = nothing false Fails is refl leaves.not_made
    unseen Wants is leaves = nothing false Wants is refl leaves.not_made
    unseen Damages is leaves = nothing false Damages is refl leaves.not_made

    what-was-made : (looked : Bool) → Answers cont_rules looked read j place change answer made after → Result looked
    what-was-made true so = seen (cont_ending answer) refl so
    what-was-made false so = unseen (cont_ending answer) refl so

-- what tells that a container is split leaves its rows alone
rows-ranged : (t : Tables) (o : Option (List Range)) (ranges : List Range) → (ranged t o ranges).rows ≡ t.rows
rows-ranged t None ranges = refl
rows-ranged t (Some old) ranges = refl

rows-closed : (t : Tables) (o : Option (List Range)) → (closed t o).rows ≡ t.rows
rows-closed t None = refl
rows-closed t (Some ranges) = by (nat_lt t.cursor (length ranges))
  where
    by : (b : Bool) → (cond b (record t { ranges = Some (with_state 30 t.cursor ranges); cursor = t.cursor + 1 }) t).rows ≡ t.rows
    by true = refl
    by false = refl

-- a step that isn't refused, and takes no rows away, leaves its rows merged
rows-left : (t : Option Tables) (place : Place) (change : ContChange) → empties change ≡ false → cont_refusal t place change ≡ None
    → rows_of (left t place change) ≡ fold merged (rows_of t) (rows_in change)
rows-left None place (Create time) keeps allowed = refl
rows-left (Some t) place (Create time) keeps allowed = by (nat_lt t.put_time time)
  where
    by : (b : Bool) → rows_of (all_entered (Some t) (cond b (Created place time ∷ []) [])) ≡ t.rows
    by true = refl
    by false = refl
rows-left None place (Remove time) keeps allowed = cc
rows-left (Some t) place (Remove time) keeps allowed = refl
rows-left t place (MergeRow row) keeps allowed = (rows-are-merged t place (row ∷ []) allowed).1
rows-left t place (MergeRows rows) keeps allowed = (rows-are-merged t place rows allowed).1
rows-left None place (SetRanges ranges) keeps allowed = refl
rows-left (Some t) place (SetRanges ranges) keeps allowed = rows-ranged t t.ranges ranges
rows-left None place (Ack range device rowid) keeps allowed = refl
rows-left (Some t) place (Ack range device rowid) keeps allowed = by (is_above rowid (point_at t.points range device))
  where
    by : (b : Bool) → rows_of (all_entered (Some t) (cond b (Acked place range device rowid ∷ []) [])) ≡ t.rows
    by true = refl
    by false = refl
rows-left None place (CloseRange range devices) keeps allowed = refl
rows-left (Some t) place (CloseRange range devices) keeps allowed = by (nat_lt range t.cursor)
  where
    by : (b : Bool) → rows_of (all_entered (Some t) (cond b [] (Closed place range ∷ []))) ≡ t.rows
    by true = refl
    by false = rows-closed t t.ranges
rows-left t place EmptyOut keeps allowed = cc
rows-left None place (SetSync device rowid) keeps allowed = refl
rows-left (Some t) place (SetSync device rowid) keeps allowed = by (is_above rowid (point_at t.syncs 0 device))
  where
    by : (b : Bool) → rows_of (all_entered (Some t) (cond b (Synced place device rowid ∷ []) [])) ≡ t.rows
    by true = refl
    by false = refl

-- one that isn't refused, and takes the rows away, leaves them taken away
rows-gone : (t : Option Tables) (place : Place) (change : ContChange) → empties change ≡ true → cont_refusal t place change ≡ None
    → is_emptied (left t place change) ≡ true
rows-gone t place (Create time) gone allowed = cc
rows-gone t place (Remove time) gone allowed = cc
rows-gone t place (MergeRow row) gone allowed = cc
rows-gone t place (MergeRows rows) gone allowed = cc
rows-gone t place (SetRanges ranges) gone allowed = cc
rows-gone t place (Ack range device rowid) gone allowed = cc
rows-gone t place (CloseRange range devices) gone allowed = cc
rows-gone None place EmptyOut gone allowed = cc
rows-gone (Some t) place EmptyOut gone allowed = there (is_no_time (deletion_after t.put_time t.delete_time)) allowed
  where
    Left : Type 0
    Left = is_emptied (all_entered (Some t) (cond t.emptied [] (Emptied place ∷ []))) ≡ true

    over : (ranges : List Range) (b : Bool) → cond b (Some (answers.StillOpen t.cursor)) None ≡ None
        → (cond b t (record t { rows = no_rows_at t.rows.top; ranges = Some (all_in_state 40 ranges); emptied = true })).emptied ≡ true
    over ranges true fine = cc
    over ranges false fine = refl

    with : (o : Option (List Range)) → refusal_with o (λ ranges. emptying_refusal t ranges) ≡ None → (emptied t o).emptied ≡ true
    with None fine = cc
    with (Some ranges) fine = over ranges (nat_lt t.cursor (length ranges)) fine

    by : (b : Bool) → t.emptied ≡ b → (emptied t t.ranges).emptied ≡ true → is_emptied (all_entered (Some t) (cond b [] (Emptied place ∷ []))) ≡ true
    by true is goes = is
    by false is goes = goes

    there : (b : Bool) → cond b (refusal_with t.ranges (λ ranges. emptying_refusal t ranges)) (Some answers.Absent) ≡ None → Left
    there true fine = by t.emptied refl (with t.ranges fine)
    there false fine = cc
rows-gone t place (SetSync device rowid) gone allowed = cc

-- ---- what was taken away stays so, whatever entries come

pub stays-emptied : (t : Option Tables) (entry : ContEntry) → is_emptied t ≡ true → is_emptied (entered t entry) ≡ true
stays-emptied None entry gone = cc
stays-emptied (Some t) (Created place time) gone = gone
stays-emptied (Some t) (Removed place time) gone = gone
stays-emptied (Some t) (Merged place row) gone = gone
stays-emptied (Some t) (Ranged place ranges) gone = by t.ranges
  where
    by : (o : Option (List Range)) → (ranged t o ranges).emptied ≡ true
    by None = gone
    by (Some old) = gone
stays-emptied (Some t) (Acked place range device rowid) gone = gone
stays-emptied (Some t) (Closed place range) gone = by t.ranges
  where
    at : (ranges : List Range) (b : Bool)
        → (cond b (record t { ranges = Some (with_state 30 t.cursor ranges); cursor = t.cursor + 1 }) t).emptied ≡ true
    at ranges true = gone
    at ranges false = gone

    by : (o : Option (List Range)) → (closed t o).emptied ≡ true
    by None = gone
    by (Some ranges) = at ranges (nat_lt t.cursor (length ranges))
stays-emptied (Some t) (Emptied place) gone = by t.ranges
  where
    at : (ranges : List Range) (b : Bool)
        → (cond b t (record t { rows = no_rows_at t.rows.top; ranges = Some (all_in_state 40 ranges); emptied = true })).emptied ≡ true
    at ranges true = gone
    at ranges false = refl

    by : (o : Option (List Range)) → (emptied t o).emptied ≡ true
    by None = gone
    by (Some ranges) = at ranges (nat_lt t.cursor (length ranges))
stays-emptied (Some t) (Synced place device rowid) gone = gone

pub all-stay-emptied : (t : Option Tables) (entries : List ContEntry) → is_emptied t ≡ true → is_emptied (fold entered t entries) ≡ true
all-stay-emptied t [] gone = gone
all-stay-emptied t (entry ∷ entries) gone = all-stay-emptied (entered t entry) entries (stays-emptied t entry gone)

rows-back : (place : Place) (rows : List Row) → map (λ (n : KnownRow). n.row) (map (λ row. record { place = place; row = row }) rows) ≡ rows
rows-back place [] = refl
rows-back place (row ∷ rows) = ap (λ (xs : List Row). row ∷ xs) (rows-back place rows)

-- one step, where its lock tells its contents
module _ (h : ContHistory) (s : Place → Option Tables) (place : Place) (change : ContChange) (answer : ContAnswer) (g : ContHistory) (t : Option Tables)
    (step : StepChanges cont_rules true h s place change answer g t) (told : h.told ≡ true) where
  abbrev rows_by : List ContEntry → List Row
  rows_by made = if was_made answer made then rows_in change else []

  abbrev Merges : Type 0
  Merges = rows_of t ≡ fold merged (rows_of (s place)) (map (λ (n : KnownRow). n.row) (made_rows place change answer step.made))

  told-before : step.before.told ≡ true
  told-before = step.follows.told ∙ told

  leaves : t ≡ fold entered (s place) step.made
  leaves = step.leaves refl told-before

  back : rows_of (fold entered (s place) step.made) ≡ fold merged (rows_of (s place)) (rows_by step.made) → Merges
  back merges = ap rows_of leaves ∙ (merges ∙ ap (λ (rows : List Row). fold merged (rows_of (s place)) rows) (sym (rows-back place (rows_by step.made))))

  may-be-made : MayBeMade answer step.looked step.read place change step.made
  may-be-made = what-was-made step.read step.before.journal place change answer step.made g.journal step.looked step.answered

  -- nothing was made of it
  none-merges : step.made ≡ [] → has_made (cont_ending answer) ≡ false → Merges
  none-merges none isnt = let unmade : was_made answer [] ≡ false = isnt in back (rw (none, unmade) refl)

  -- all of it was, over what stood
  module _ (all : IsAllMade answer step.looked step.read place change step.made) where
    stood : step.read ≡ s place
    stood = step.held refl told-before all.looked

    allowed : cont_refusal (s place) place change ≡ None
    allowed = subst (λ (x : Option Tables). cont_refusal x place change ≡ None) stood all.allowed

    made-is : step.made ≡ entries_for (s place) place change
    made-is = all.all ∙ ap (λ (x : Option Tables). entries_for x place change) stood

    all-merges : empties change ≡ false → Merges
    all-merges keeps = back (
        ap (λ (es : List ContEntry). rows_of (fold entered (s place) es)) made-is
        ∙ (rows-left (s place) place change keeps allowed
        ∙ ap (λ (b : Bool). fold merged (rows_of (s place)) (if b then rows_in change else [])) (sym all.was))
        )

    all-gone : empties change ≡ true → is_emptied t ≡ true
    all-gone gone =
        ap is_emptied leaves
        ∙ (ap (λ (es : List ContEntry). is_emptied (fold entered (s place) es)) made-is ∙ rows-gone (s place) place change gone allowed)

  keeps-merges : empties change ≡ false → Merges
  keeps-merges keeps = by may-be-made
    where
      by : MayBeMade answer step.looked step.read place change step.made → Merges
      by (inl none) = none-merges none.0 none.1
      by (inr all) = all-merges all keeps

  -- where the rows aren't taken away behind it, it took none away, or nothing was made of it
  pub unemptied-merges : is_emptied t ≡ false → Merges
  unemptied-merges stays = by may-be-made (cases_Bool (empties change))
    where
      by : MayBeMade answer step.looked step.read place change step.made → (empties change ≡ true) ⊎ (empties change ≡ false) → Merges
      by (inl none) whether = none-merges none.0 none.1
      by (inr all) (inl gone) = absurd (true≢false (sym (all-gone all gone) ∙ stays))
      by (inr all) (inr keeps) = all-merges all keeps

  pub emptied-still : is_emptied (s place) ≡ true → is_emptied t ≡ true
  emptied-still gone = ap is_emptied leaves ∙ all-stay-emptied (s place) step.made gone

-- what was made of a step leaves the rows merged that came by it, where it takes none away
pub made-merges : (h : ContHistory) (s : Place → Option Tables) (place : Place) (change : ContChange) (keeps : empties change ≡ false)
    (answer : ContAnswer) (g : ContHistory)
    (t : Option Tables) (step : StepChanges cont_rules true h s place change answer g t) → h.told ≡ true
    → rows_of t ≡ fold merged (rows_of (s place)) (map (λ (n : KnownRow). n.row) (made_rows place change answer step.made))
made-merges h s place change keeps answer g t step told = keeps-merges h s place change answer g t step told keeps
