-- What a step leaves of the rows and the sync points of its container.
use Rattle.std.proofs.Common.{◌≡◌, ◌≢◌, ℕ, Bool, true, false, cond, nat_lt, List, [], ◌∷◌, ◌++◌, All, Option, None, Some, ◌⊎◌, inl, inr, refl, sym, ◌∙◌, ap}
use Rattle.std.proofs.Common.{◌+◌, length, subst}
use Rattle.std.specs.Bool.{⊤}
use Rattle.std.specs.List.{fold}
use Rattle.std.proofs.lemmas.List.Elements.{All-append, All-cons, All-head, All-nil, All-tail}
use Rattle.std.proofs.lemmas.List.Sums.{fold-append}
use Rattle.sw_container_steps.proofs.Leaving.{rows-are-merged}
use Rattle.sw_container_steps.proofs.Ruling.{made-whole}
use Rattle.sw_container_steps.specs.Entries.{closed, entered, ranged, rows_of}
use Rattle.sw_container_steps.specs.Laws.{left}
use Rattle.sw_container_steps.specs.Rules.{ContHistory, cont_ending, cont_rules}
use Rattle.sw_container_steps.specs.Steps.{cont_refusal, created_by, creator, entries_for, merging_entries, rows_entries}
use Rattle.sw_container_steps.specs.declared.cont_answer.ContAnswer.{ContAnswer}
use Rattle.sw_container_steps.specs.declared.cont_change.ContChange.{ContChange}
use Rattle.sw_container_steps.specs.declared.cont_change.ContChange.TheVariants.{Create, Remove, MergeRow, MergeRows, SetRanges, Ack, CloseRange}
use Rattle.sw_container_steps.specs.declared.cont_change.ContChange.TheVariants.{EmptyOut, SetSync}
use Rattle.sw_container_steps.specs.declared.cont_entry.ContEntry.{ContEntry}
use Rattle.sw_container_steps.specs.declared.cont_entry.ContEntry.TheVariants.{Created, Removed, Merged, Ranged, Acked, Closed, Emptied, Synced}
use Rattle.sw_cont_replicator.specs.Meeting.{HasRow, point_in}
use Rattle.sw_hashpath.specs.declared.place.Place.{Place}
use Rattle.sw_keeper.specs.declared.tables.Tables.{Tables}
use Rattle.sw_rows.proofs.Greater.{StandsFor, stands-merged, still-fold}
use Rattle.sw_rows.specs.Rows.{Listed, find_named, fits, merged}
use Rattle.sw_rows.specs.declared.row.Row.{Row}
use Rattle.sw_shard_range.specs.States.{with_state}
use Rattle.sw_shard_range.specs.declared.range.Range.{Range}
use Rattle.sw_step.specs.Rules.{Damages, Ending, Fails, Makes, Overflows, Refuses, Wants, has_made}
use Rattle.sw_step.specs.Steps.{Answers, EndsSeen, EndsUnseen, IsDone, StepChanges}
use Rattle.sw_sync.proofs.Setting.{point-other, point-set}
use Rattle.sw_sync.specs.Points.{is_above, point_at}

-- ---- between two tables

-- rows of this kind were merged, one after the other, and the sync points stayed
pub record Merges (S : Row → Type 0) (before after : Option Tables) : Type 0 where
  pub rows : List Row
  pub are : All S rows
  pub merged_is : rows_of after ≡ fold merged (rows_of before) rows
  pub points : (device : ℕ) → point_in after device ≡ point_in before device

-- the rows stayed, and so did the sync points but that of a device, which stayed or is this number
pub record Sets (device rowid : ℕ) (before after : Option Tables) : Type 0 where
  pub rows : rows_of after ≡ rows_of before
  pub others : (other : ℕ) → device ≢ other → point_in after other ≡ point_in before other
  pub own : (point_in after device ≡ point_in before device) ⊎ (point_in after device ≡ Some rowid)

-- what was there is there still
pub still-has : (S : Row → Type 0) (before after : Option Tables) (row : Row) → Merges S before after → HasRow before row → HasRow after row
still-has S before after row m has =
    subst (λ (l : Listed). StandsFor (find_named l.list row.name) row) (sym m.merged_is)
    (still-fold (rows_of before) m.rows row.name row has)

module _ (S : Row → Type 0) where
  merges-none : (before after : Option Tables) → rows_of after ≡ rows_of before → ((device : ℕ) → point_in after device ≡ point_in before device)
      → Merges S before after
  merges-none before after same points = record { rows = []; are = All-nil S; merged_is = same; points = points }

  pub merges-same : (before after : Option Tables) → after ≡ before → Merges S before after
  merges-same before after same = merges-none before after (ap rows_of same) (λ device. ap (λ (t : Option Tables). point_in t device) same)

  pub merges-trans : (a b c : Option Tables) → Merges S a b → Merges S b c → Merges S a c
  merges-trans a b c p q = record {
    rows = p.rows ++ q.rows;
    are = All-append S p.rows q.rows p.are q.are;
    merged_is =
        q.merged_is
        ∙ (ap (λ (l : Listed). fold merged l q.rows) p.merged_is ∙ sym (fold-append merged (rows_of a) p.rows q.rows));
    points = λ device. q.points device ∙ p.points device;
  }

  -- ---- entries

  -- it sets no point and takes no rows away, and the row that it merges, where it merges one, is of this kind
  abbrev pub MergesOnly : ContEntry → Type 0
  MergesOnly (Created place time) = ⊤
  MergesOnly (Removed place time) = ⊤
  MergesOnly (Merged place row) = S row
  MergesOnly (Ranged place ranges) = ⊤
  MergesOnly (Acked place range device rowid) = ⊤
  MergesOnly (Closed place range) = ⊤
  MergesOnly (Emptied place) = ⊥
  MergesOnly (Synced place device rowid) = ⊥

  abbrev pub AllMerge : List ContEntry → Type 0
  AllMerge [] = ⊤
  AllMerge (e ∷ es) = MergesOnly e × AllMerge es

  ranged-merges : (t : Tables) (o : Option (List Range)) (ranges : List Range) → Merges S (Some t) (Some (ranged t o ranges))
  ranged-merges t None ranges = merges-none (Some t) (Some (ranged t None ranges)) refl (λ device. refl)
  ranged-merges t (Some old) ranges = merges-same (Some t) (Some t) refl

  closed-merges : (t : Tables) (o : Option (List Range)) → Merges S (Some t) (Some (closed t o))
  closed-merges t None = merges-same (Some t) (Some t) refl
  closed-merges t (Some ranges) = by (nat_lt t.cursor (length ranges))
    where
      next : Tables
      next = record t { ranges = Some (with_state 30 t.cursor ranges); cursor = t.cursor + 1 }

      by : (b : Bool) → Merges S (Some t) (Some (cond b next t))
      by true = merges-none (Some t) (Some next) refl (λ device. refl)
      by false = merges-same (Some t) (Some t) refl

  entered-merges : (t : Option Tables) (e : ContEntry) → MergesOnly e → Merges S t (entered t e)
  entered-merges None (Created place time) only = merges-none None (entered None (Created place time)) refl (λ device. refl)
  entered-merges None (Removed place time) only = merges-same None None refl
  entered-merges None (Merged place row) only = merges-same None None refl
  entered-merges None (Ranged place ranges) only = merges-same None None refl
  entered-merges None (Acked place range device rowid) only = merges-same None None refl
  entered-merges None (Closed place range) only = merges-same None None refl
  entered-merges None (Emptied place) only = absurd only
  entered-merges None (Synced place device rowid) only = absurd only
  entered-merges (Some t) (Created place time) only = merges-none (Some t) (entered (Some t) (Created place time)) refl (λ device. refl)
  entered-merges (Some t) (Removed place time) only = merges-none (Some t) (entered (Some t) (Removed place time)) refl (λ device. refl)
  entered-merges (Some t) (Merged place row) only = record {
    rows = row ∷ [];
    are = All-cons S row [] only (All-nil S);
    merged_is = refl;
    points = λ device. refl;
  }
  entered-merges (Some t) (Ranged place ranges) only = ranged-merges t t.ranges ranges
  entered-merges (Some t) (Acked place range device rowid) only =
      merges-none (Some t) (entered (Some t) (Acked place range device rowid)) refl (λ other. refl)
  entered-merges (Some t) (Closed place range) only = closed-merges t t.ranges
  entered-merges (Some t) (Emptied place) only = absurd only
  entered-merges (Some t) (Synced place device rowid) only = absurd only

  all-merges : (t : Option Tables) (es : List ContEntry) → AllMerge es → Merges S t (fold entered t es)
  all-merges t [] all = merges-same t t refl
  all-merges t (e ∷ es) all =
      merges-trans t (entered t e) (fold entered (entered t e) es) (entered-merges t e all.0) (all-merges (entered t e) es all.1)

  -- ---- the entries of a step

  -- it sets no point and takes no rows away, and brings rows of this kind alone
  abbrev pub BringsOnly : ContChange → Type 0
  BringsOnly (Create time) = ⊤
  BringsOnly (Remove time) = ⊤
  BringsOnly (MergeRow row) = S row
  BringsOnly (MergeRows rows) = All S rows
  BringsOnly (SetRanges ranges) = ⊤
  BringsOnly (Ack range device rowid) = ⊤
  BringsOnly (CloseRange range devices) = ⊤
  BringsOnly EmptyOut = ⊥
  BringsOnly (SetSync device rowid) = ⊥

  both-merge : (es fs : List ContEntry) → AllMerge es → AllMerge fs → AllMerge (es ++ fs)
  both-merge [] fs p q = q
  both-merge (e ∷ es) fs p q = (p.0, both-merge es fs p.1 q)

  rows-merge : (l : Listed) (place : Place) (rows : List Row) → All S rows → AllMerge (merging_entries l place rows)
  rows-merge l place [] all = tt
  rows-merge l place (row ∷ rows) all =
      by (fits (find_named l.list row.name) row) (rows-merge (merged l row) place rows (All-tail S row rows all))
    where
      by : (b : Bool) → AllMerge (merging_entries (merged l row) place rows)
          → AllMerge (cond b (Merged place row ∷ merging_entries (merged l row) place rows) (merging_entries (merged l row) place rows))
      by true rest = (All-head S row rows all, rest)
      by false rest = rest

  created-merge : (t : Option Tables) (place : Place) (o : Option Row) → AllMerge (created_by t place o)
  created-merge t place None = tt
  created-merge t place (Some row) = (tt, tt)

  brought-merge : (t : Option Tables) (place : Place) (rows : List Row) → All S rows → AllMerge (rows_entries t place rows)
  brought-merge t place rows all =
      both-merge (created_by t place (creator t place rows)) (merging_entries (rows_of t) place rows) (created-merge t place (creator t place rows))
      (rows-merge (rows_of t) place rows all)

  entries-merge : (t : Option Tables) (place : Place) (change : ContChange) → BringsOnly change → AllMerge (entries_for t place change)
  entries-merge None place (Create time) only = (tt, tt)
  entries-merge (Some t) place (Create time) only = by (nat_lt t.put_time time)
    where
      by : (b : Bool) → AllMerge (cond b (Created place time ∷ []) [])
      by true = (tt, tt)
      by false = tt
  entries-merge t place (Remove time) only = (tt, tt)
  entries-merge t place (MergeRow row) only = brought-merge t place (row ∷ []) (All-cons S row [] only (All-nil S))
  entries-merge t place (MergeRows rows) only = brought-merge t place rows only
  entries-merge t place (SetRanges ranges) only = (tt, tt)
  entries-merge None place (Ack range device rowid) only = tt
  entries-merge (Some t) place (Ack range device rowid) only = by (is_above rowid (point_at t.points range device))
    where
      by : (b : Bool) → AllMerge (cond b (Acked place range device rowid ∷ []) [])
      by true = (tt, tt)
      by false = tt
  entries-merge None place (CloseRange range devices) only = tt
  entries-merge (Some t) place (CloseRange range devices) only = by (nat_lt range t.cursor)
    where
      by : (b : Bool) → AllMerge (cond b [] (Closed place range ∷ []))
      by true = tt
      by false = (tt, tt)
  entries-merge t place EmptyOut only = absurd only
  entries-merge t place (SetSync device rowid) only = absurd only

-- ---- a step of a lock that tells, and that nobody else changes

module _ (alone : Bool) (h : ContHistory) (s : Place → Option Tables) (place : Place) (change : ContChange) (answer : ContAnswer) (g : ContHistory)
    (t : Option Tables) (step : StepChanges cont_rules alone h s place change answer g t) (sure : alone ≡ true) (told : h.told ≡ true) where
  told_before : step.before.told ≡ true
  told_before = step.follows.told ∙ told

  -- what was made of it is nothing, or all of its entries over what was read
  whole : (step.made ≡ []) ⊎ ((step.looked ≡ true) × (step.made ≡ entries_for step.read place change))
  whole = made-whole step.looked step.read step.before.journal place change answer step.made g.journal step.answered

  pub step-merges : (S : Row → Type 0) → BringsOnly S change → Merges S (s place) t
  step-merges S only = subst (Merges S (s place)) (sym (step.leaves sure told_before)) (all-merges S (s place) step.made (made whole))
    where
      made : (step.made ≡ []) ⊎ ((step.looked ≡ true) × (step.made ≡ entries_for step.read place change)) → AllMerge S step.made
      made (inl none) = subst (AllMerge S) (sym none) tt
      made (inr all) = subst (AllMerge S) (sym all.1) (entries-merge S step.read place change only)

  pub step-sets : (device rowid : ℕ) → change ≡ SetSync device rowid → Sets device rowid (s place) t
  step-sets device rowid is = subst (Sets device rowid (s place)) (sym (step.leaves sure told_before)) (made whole)
    where
      stays : Sets device rowid (s place) (s place)
      stays = record { rows = refl; others = λ other apart. refl; own = inl refl }

      over : (x : Option Tables) → Sets device rowid x (fold entered x (Synced place device rowid ∷ []))
      over None = record { rows = refl; others = λ other apart. refl; own = inl refl }
      over (Some x) = record {
        rows = refl;
        others = λ other apart. point-other x.syncs 0 device rowid other apart;
        own = inr (point-set x.syncs 0 device rowid);
      }

      by : (b : Bool) → Sets device rowid (s place) (fold entered (s place) (cond b (Synced place device rowid ∷ []) []))
      by true = over (s place)
      by false = stays

      entries : (x : Option Tables) → Sets device rowid (s place) (fold entered (s place) (entries_for x place (SetSync device rowid)))
      entries None = stays
      entries (Some x) = by (is_above rowid (point_at x.syncs 0 device))

      made : (step.made ≡ []) ⊎ ((step.looked ≡ true) × (step.made ≡ entries_for step.read place change))
          → Sets device rowid (s place) (fold entered (s place) step.made)
      made (inl none) = subst (λ (es : List ContEntry). Sets device rowid (s place) (fold entered (s place) es)) (sym none) stays
      made (inr all) =
          subst (λ (es : List ContEntry). Sets device rowid (s place) (fold entered (s place) es))
          (sym (all.1 ∙ ap (λ (c : ContChange). entries_for step.read place c) is)) (entries step.read)

  -- a row that was acknowledged is there
  pub step-has : (row : Row) → change ≡ MergeRow row → has_made (cont_ending answer) ≡ true → HasRow t row
  step-has row is acknowledged = by step.looked refl (cont_ending answer) refl acknowledged step.answered
    where
      there : step.looked ≡ true → IsDone cont_rules step.read step.before.journal place change answer step.made g.journal → HasRow t row
      there looked d =
          let stood : step.read ≡ s place = step.held sure told_before looked in
          let allowed : cont_refusal (s place) place (MergeRow row) ≡ None =
          ap (λ (c : ContChange). cont_refusal (s place) place c) (sym is)
          ∙ (ap (λ (x : Option Tables). cont_refusal x place change) (sym stood) ∙ d.not_refused) in
          let after : t ≡ left (s place) place (MergeRow row) =
          step.leaves sure told_before
          ∙ (ap (λ (es : List ContEntry). fold entered (s place) es) d.is_made
          ∙ (ap (λ (x : Option Tables). fold entered (s place) (entries_for x place change)) stood
          ∙ ap (λ (c : ContChange). fold entered (s place) (entries_for (s place) place c)) is)) in
          let rows : rows_of t ≡ merged (rows_of (s place)) row = ap rows_of after ∙ (rows-are-merged (s place) place (row ∷ []) allowed).1 in
          subst (λ (l : Listed). StandsFor (find_named l.list row.name) row) (sym rows) (stands-merged (rows_of (s place)) row)

      by : (looked : Bool) → step.looked ≡ looked → (e : Ending) → cont_ending answer ≡ e → has_made e ≡ true
          → Answers cont_rules looked step.read step.before.journal place change answer step.made g.journal → HasRow t row
      by true saw Makes ends made so =
          there saw (subst (λ (e : Ending). EndsSeen cont_rules e step.read step.before.journal place change answer step.made g.journal) ends so)
      by false saw Makes ends made so =
          absurd (subst (λ (e : Ending). EndsUnseen cont_rules e step.before.journal step.made g.journal) ends so)
      by looked saw Refuses ends made so = cc
      by looked saw Overflows ends made so = cc
      by looked saw Fails ends made so = cc
      by looked saw Wants ends made so = cc
      by looked saw Damages ends made so = cc
