-- Where no name is left to a shard: rows that come leave none, and none of them is redirected.
use Rattle.std.proofs.Common.{◌≡◌, ℕ, nat_lt, Bool, true, false, cond, if◌then◌else◌, List, [], ◌∷◌, ◌++◌, Option, None, Some, ◌⊎◌, inl, inr, refl}
use Rattle.std.proofs.Common.{arith, le-ltb, sym, ◌∙◌, ap, subst}
use Rattle.std.specs.Bool.{⊤}
use Rattle.std.specs.List.{fold}
use Rattle.std.specs.Option.{option_map, option_or}
use Rattle.sw_container_steps.proofs.Ruling.{made-whole}
use Rattle.sw_container_steps.specs.Entries.{entered, rows_of}
use Rattle.sw_container_steps.specs.Presence.{is_present}
use Rattle.sw_container_steps.specs.Rules.{ContHistory, cont_rules}
use Rattle.sw_container_steps.specs.Serving.{served_by}
use Rattle.sw_container_steps.specs.Steps.{cont_refusal, created_by, creator, entries_for, is_a_row, merging_entries, merging_refusal, redirection}
use Rattle.sw_container_steps.specs.Steps.{rows_entries}
use Rattle.sw_container_steps.specs.declared.cont_answer.ContAnswer.{ContAnswer}
use Rattle.sw_container_steps.specs.declared.cont_answer.ContAnswer.TheVariants as answers
use Rattle.sw_container_steps.specs.declared.cont_change.ContChange.{ContChange}
use Rattle.sw_container_steps.specs.declared.cont_change.ContChange.TheVariants.{MergeRow}
use Rattle.sw_container_steps.specs.declared.cont_entry.ContEntry.{ContEntry}
use Rattle.sw_container_steps.specs.declared.cont_entry.ContEntry.TheVariants.{Created, Removed, Merged, Ranged, Acked, Closed, Emptied, Synced}
use Rattle.sw_cont_replicator.specs.Meeting.{LeavesNoName}
use Rattle.sw_hashpath.specs.declared.place.Place.{Place}
use Rattle.sw_keeper.specs.declared.tables.Tables.{Tables}
use Rattle.sw_rows.specs.Rows.{Listed, find_named, fits, merged}
use Rattle.sw_rows.specs.declared.row.Row.{Row}
use Rattle.sw_shard_range.specs.Ranges.{index_in}
use Rattle.sw_shard_range.specs.declared.range.Range.{Range}
use Rattle.sw_step.specs.Steps.{Answers, StepChanges}

-- ---- entries of rows

-- it puts a row in, or creates the container of one
abbrev IsOfRows : ContEntry → Type 0
IsOfRows (Created place time) = ⊤
IsOfRows (Removed place time) = ⊥
IsOfRows (Merged place row) = ⊤
IsOfRows (Ranged place ranges) = ⊥
IsOfRows (Acked place range device rowid) = ⊥
IsOfRows (Closed place range) = ⊥
IsOfRows (Emptied place) = ⊥
IsOfRows (Synced place device rowid) = ⊥

abbrev AreOfRows : List ContEntry → Type 0
AreOfRows [] = ⊤
AreOfRows (e ∷ es) = IsOfRows e × AreOfRows es

both-of-rows : (es fs : List ContEntry) → AreOfRows es → AreOfRows fs → AreOfRows (es ++ fs)
both-of-rows [] fs p q = q
both-of-rows (e ∷ es) fs p q = (p.0, both-of-rows es fs p.1 q)

merging-of-rows : (l : Listed) (place : Place) (rows : List Row) → AreOfRows (merging_entries l place rows)
merging-of-rows l place [] = tt
merging-of-rows l place (row ∷ rows) = by (fits (find_named l.list row.name) row) (merging-of-rows (merged l row) place rows)
  where
    by : (b : Bool) → AreOfRows (merging_entries (merged l row) place rows)
        → AreOfRows (cond b (Merged place row ∷ merging_entries (merged l row) place rows) (merging_entries (merged l row) place rows))
    by true rest = (tt, rest)
    by false rest = rest

created-of-rows : (t : Option Tables) (place : Place) (o : Option Row) → AreOfRows (created_by t place o)
created-of-rows t place None = tt
created-of-rows t place (Some row) = (tt, tt)

are-of-rows : (t : Option Tables) (place : Place) (rows : List Row) → AreOfRows (rows_entries t place rows)
are-of-rows t place rows =
    both-of-rows (created_by t place (creator t place rows)) (merging_entries (rows_of t) place rows) (created-of-rows t place (creator t place rows))
    (merging-of-rows (rows_of t) place rows)

entered-keeps : (t : Option Tables) (e : ContEntry) → IsOfRows e → LeavesNoName t → LeavesNoName (entered t e)
entered-keeps None (Created place time) of_rows keeps = refl
entered-keeps None (Merged place row) of_rows keeps = tt
entered-keeps (Some t) (Created place time) of_rows keeps = keeps
entered-keeps (Some t) (Merged place row) of_rows keeps = keeps
entered-keeps t (Removed place time) of_rows keeps = absurd of_rows
entered-keeps t (Ranged place ranges) of_rows keeps = absurd of_rows
entered-keeps t (Acked place range device rowid) of_rows keeps = absurd of_rows
entered-keeps t (Closed place range) of_rows keeps = absurd of_rows
entered-keeps t (Emptied place) of_rows keeps = absurd of_rows
entered-keeps t (Synced place device rowid) of_rows keeps = absurd of_rows

all-keeps : (t : Option Tables) (es : List ContEntry) → AreOfRows es → LeavesNoName t → LeavesNoName (fold entered t es)
all-keeps t [] of_rows keeps = keeps
all-keeps t (e ∷ es) of_rows keeps = all-keeps (entered t e) es of_rows.1 (entered-keeps t e of_rows.0 keeps)

-- ---- no row is redirected

none-served : (o : Option (List Range)) (name : List ℕ) → served_by o 0 name ≡ None
none-served None name = refl
none-served (Some ranges) name = let above : nat_lt (index_in ranges name) 0 ≡ false = le-ltb (index_in ranges name) 0 (omega arith) in rw above refl

unredirected : (t : Option Tables) (place : Place) (row : Row) (shard : Place) → LeavesNoName t
    → merging_refusal t place (row ∷ []) ≡ Some (answers.Redirect shard) → ⊥
unredirected t place row shard keeps is = by (is_present t) (is_a_row (creator t place (row ∷ []))) is
  where
    over : (x : Option Tables) → LeavesNoName x → redirection x (row ∷ []) ≡ Some (answers.Redirect shard) → ⊥
    over None kept same = cc
    over (Some x) kept same = gone (subst (λ (o : Option Place). option_map answers.Redirect (option_or o None) ≡ Some (answers.Redirect shard)) none same)
      where
        none : served_by x.ranges x.cursor row.name ≡ None
        none = ap (λ (cursor : ℕ). served_by x.ranges cursor row.name) kept ∙ none-served x.ranges row.name

        gone : None ≡ Some (answers.Redirect shard) → ⊥
        gone same = cc

    by : (b c : Bool) → (if b then redirection t (row ∷ []) else if c then None else Some answers.Absent) ≡ Some (answers.Redirect shard) → ⊥
    by true c same = over t keeps same
    by false true same = cc
    by false false same = cc

-- ---- a step of a lock that tells, and that nobody else changes

module _ (alone : Bool) (h : ContHistory) (s : Place → Option Tables) (place : Place) (change : ContChange) (answer : ContAnswer) (g : ContHistory)
    (t : Option Tables) (step : StepChanges cont_rules alone h s place change answer g t) (sure : alone ≡ true) (told : h.told ≡ true)
    (row : Row) (is : change ≡ MergeRow row) (keeps : LeavesNoName (s place)) where
  told_before : step.before.told ≡ true
  told_before = step.follows.told ∙ told

  pub step-opens : LeavesNoName t
  step-opens =
      subst LeavesNoName (sym (step.leaves sure told_before))
      (all-keeps (s place) step.made
      (made (made-whole step.looked step.read step.before.journal place change answer step.made g.journal step.answered)) keeps)
    where
      made : (step.made ≡ []) ⊎ ((step.looked ≡ true) × (step.made ≡ entries_for step.read place change)) → AreOfRows step.made
      made (inl none) = subst AreOfRows (sym none) tt
      made (inr all) =
          subst AreOfRows (sym (all.1 ∙ ap (λ (c : ContChange). entries_for step.read place c) is)) (are-of-rows step.read place (row ∷ []))

  pub step-stays : (shard : Place) → answer ≡ answers.Redirect shard → ⊥
  step-stays shard redirects =
      by step.looked refl
      (subst (λ (a : ContAnswer). Answers cont_rules step.looked step.read step.before.journal place change a step.made g.journal) redirects step.answered)
    where
      by : (looked : Bool) → step.looked ≡ looked
          → Answers cont_rules looked step.read step.before.journal place change (answers.Redirect shard) step.made g.journal → ⊥
      by true saw so =
          unredirected (s place) place row shard keeps
          (ap (λ (c : ContChange). cont_refusal (s place) place c) (sym is)
          ∙ (ap (λ (x : Option Tables). cont_refusal x place change) (sym (step.held sure told_before saw)) ∙ so.refused))
      by false saw so = so
