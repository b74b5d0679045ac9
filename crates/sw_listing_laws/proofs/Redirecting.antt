-- Rows that a container leaves to a shard: one that does so doesn't keep all of its own, neither before the step nor behind it.
use Rattle.std.proofs.Common.{◌≡◌, ℕ, nat_lt, Bool, true, false, cond, List, [], ◌∷◌, Option, None, Some, ◌⊎◌, inl, inr, refl, sym, ◌∙◌, ap, subst}
use Rattle.std.proofs.Common.{arith, if◌then◌else◌, true≢false}
use Rattle.std.specs.List.{All, fold}
use Rattle.std.specs.Option.{option_map, option_or}
use Rattle.std.proofs.lemmas.Bool.{le-ltb}
use Rattle.std.proofs.lemmas.List.Elements.{All-nil}
use Rattle.sw_container_steps.specs.Entries.{entered}
use Rattle.sw_container_steps.specs.Presence.{is_present}
use Rattle.sw_container_steps.specs.Rules.{ContHistory, ContJournal, cont_ending, cont_rules}
use Rattle.sw_container_steps.specs.Serving.{served_by}
use Rattle.sw_container_steps.specs.Steps.{cont_refusal, creator, is_a_row, redirection}
use Rattle.sw_container_steps.specs.declared.cont_answer.ContAnswer.{ContAnswer}
use Rattle.sw_container_steps.specs.declared.cont_answer.ContAnswer.TheVariants as answers
use Rattle.sw_container_steps.specs.declared.cont_change.ContChange.{ContChange}
use Rattle.sw_container_steps.specs.declared.cont_change.ContChange.TheVariants.{Create, Remove, MergeRow, MergeRows, SetRanges, Ack, CloseRange}
use Rattle.sw_container_steps.specs.declared.cont_change.ContChange.TheVariants.{EmptyOut, SetSync}
use Rattle.sw_container_steps.specs.declared.cont_entry.ContEntry.{ContEntry}
use Rattle.sw_hashpath.specs.declared.place.Place.{Place}
use Rattle.sw_keeper.specs.declared.tables.Tables.{Tables}
use Rattle.sw_machine.specs.Machine.{rows_in}
use Rattle.sw_rows.specs.declared.row.Row.{Row}
use Rattle.sw_shard_range.specs.Ranges.{index_in}
use Rattle.sw_shard_range.specs.declared.range.Range.{Range}
use Rattle.sw_step.specs.Rules.{has_made}
use Rattle.sw_step.specs.Steps.{Answers, StepChanges}
use Rattle.sw_listing_laws.proofs.Splitting.{IsKept}

-- ---- answers

-- whether a name is left to a shard
abbrev pub is_redirect : ContAnswer → Bool
is_redirect (answers.Redirect shard) = true
is_redirect answer = false

redirect-is : (answer : ContAnswer) → is_redirect answer ≡ true → (shard : Place) × (answer ≡ answers.Redirect shard)
redirect-is (answers.New front) is = cc
redirect-is (answers.There front) is = cc
redirect-is (answers.Done front) is = cc
redirect-is answers.Absent is = cc
redirect-is (answers.Stale time) is = cc
redirect-is (answers.NotEmpty count) is = cc
redirect-is answers.HasRanges is = cc
redirect-is answers.NoRanges is = cc
redirect-is (answers.Redirect shard) is = (shard, refl)
redirect-is (answers.StillOpen range) is = cc
redirect-is (answers.Later rowid) is = cc
redirect-is (answers.NotAcked device) is = cc
redirect-is answers.JournalFull is = cc
redirect-is answers.Failed is = cc
redirect-is answers.NoMemory is = cc

-- the row counts as taken, here or by the shard
abbrev pub IsHeard : ContAnswer → Type 0
IsHeard answer = (has_made (cont_ending answer) ≡ true) ⊎ (is_redirect answer ≡ true)

-- the rows of a step that are left to a shard
abbrev pub left_rows : ContChange → ContAnswer → List Row
left_rows (MergeRow row) answer = if is_redirect answer then row ∷ [] else []
left_rows change answer = []

-- what was made isn't left to a shard
pub made-here : (answer : ContAnswer) → has_made (cont_ending answer) ≡ true → is_redirect answer ≡ false
made-here answer made = by (is_redirect answer) refl
  where
    by : (b : Bool) → is_redirect answer ≡ b → b ≡ false
    by true is =
        let r = redirect-is answer is in
        let never : true ≡ false = sym made ∙ ap (λ (a : ContAnswer). has_made (cont_ending a)) r.1 in cc
    by false is = refl

-- nor is what is left made
pub left-unmade : (answer : ContAnswer) → is_redirect answer ≡ true → has_made (cont_ending answer) ≡ false
left-unmade answer is = ap (λ (a : ContAnswer). has_made (cont_ending a)) (redirect-is answer is).1

-- the rows that are left are among those of the step
pub left-only : (P : Row → Type 0) (change : ContChange) (answer : ContAnswer) → All P (rows_in change) → All P (left_rows change answer)
left-only P (Create time) answer all = all
left-only P (Remove time) answer all = all
left-only P (MergeRow row) answer all = by (is_redirect answer)
  where
    by : (b : Bool) → All P (cond b (row ∷ []) [])
    by true = all
    by false = All-nil P
left-only P (MergeRows rows) answer all = All-nil P
left-only P (SetRanges ranges) answer all = all
left-only P (Ack range device rowid) answer all = all
left-only P (CloseRange range devices) answer all = all
left-only P EmptyOut answer all = all
left-only P (SetSync device rowid) answer all = all

-- ---- the tables of a container that leaves a name to a shard

kept-serves : (ranges : Option (List Range)) (cursor : ℕ) (name : List ℕ) → (ranges ≡ None) ⊎ (cursor ≡ 0) → served_by ranges cursor name ≡ None
kept-serves None cursor name is = refl
kept-serves (Some ranges) cursor name (inl never) = cc
kept-serves (Some ranges) cursor name (inr is) =
    let above : nat_lt (index_in ranges name) cursor ≡ false = le-ltb (index_in ranges name) cursor (omega (arith, is)) in rw above refl

-- one that keeps all refuses no row so
kept-takes : (t : Option Tables) (place : Place) (row : Row) (answer : ContAnswer) → IsKept t → cont_refusal t place (MergeRow row) ≡ Some answer
    → is_redirect answer ≡ true → ⊥
kept-takes t place row answer kept refused is = by (is_present t) refused
  where
    none : (o : Option Place) → o ≡ None → option_map answers.Redirect (option_or o None) ≡ Some answer → ⊥
    none o gone some = let never : None ≡ Some answer = ap (λ (x : Option Place). option_map answers.Redirect (option_or x None)) (sym gone) ∙ some in cc

    there : (u : Option Tables) → IsKept u → redirection u (row ∷ []) ≡ Some answer → ⊥
    there None fine some = cc
    there (Some u) fine some = none (served_by u.ranges u.cursor row.name) (kept-serves u.ranges u.cursor row.name fine.1) some

    absent : (b : Bool) → cond b None (Some answers.Absent) ≡ Some answer → ⊥
    absent true some = cc
    absent false some = let same : answers.Absent ≡ answer = cc in true≢false (sym is ∙ ap is_redirect (sym same))

    by : (b : Bool)
        → cond b (redirection t (row ∷ [])) (cond (is_a_row (creator t place (row ∷ []))) None (Some answers.Absent)) ≡ Some answer → ⊥
    by true some = there t kept some
    by false some = absent (is_a_row (creator t place (row ∷ []))) some

-- ---- a step

-- one that leaves a name to a shard was answered by what stands, and nothing was made of it
pub record IsLeft (looked : Bool) (read : Option Tables) (place : Place) (change : ContChange) (answer : ContAnswer) (made : List ContEntry) : Type 0 where
  pub seen : looked ≡ true
  pub not_made : made ≡ []
  pub refused : cont_refusal read place change ≡ Some answer

pub left-so : (looked : Bool) (read : Option Tables) (j : ContJournal) (place : Place) (change : ContChange) (answer : ContAnswer) (made : List ContEntry)
    (after : ContJournal) → Answers cont_rules looked read j place change answer made after → is_redirect answer ≡ true
    → IsLeft looked read place change answer made
left-so looked read j place change answer made after so is =
    let r = redirect-is answer is in
    subst (λ (a : ContAnswer). IsLeft looked read place change a made) (sym r.1)
    (by looked r.0 (subst (λ (a : ContAnswer). Answers cont_rules looked read j place change a made after) r.1 so))
  where
    by : (b : Bool) (shard : Place) → Answers cont_rules b read j place change (answers.Redirect shard) made after
        → IsLeft b read place change (answers.Redirect shard) made
    by true shard at = record { seen = refl; not_made = at.leaves.not_made; refused = at.refused }
    by false shard at = absurd at

-- where all is kept behind a step, none of its rows was left to a shard
pub none-left : (h : ContHistory) (s : Place → Option Tables) (place : Place) (change : ContChange) (answer : ContAnswer) (g : ContHistory) (t : Option Tables)
    → StepChanges cont_rules true h s place change answer g t → h.told ≡ true → IsKept t → left_rows change answer ≡ []
none-left h s place (Create time) answer g t step told kept = refl
none-left h s place (Remove time) answer g t step told kept = refl
none-left h s place (MergeRows rows) answer g t step told kept = refl
none-left h s place (SetRanges ranges) answer g t step told kept = refl
none-left h s place (Ack range device rowid) answer g t step told kept = refl
none-left h s place (CloseRange range devices) answer g t step told kept = refl
none-left h s place EmptyOut answer g t step told kept = refl
none-left h s place (SetSync device rowid) answer g t step told kept = refl
none-left h s place (MergeRow row) answer g t step told kept = by (is_redirect answer) refl
  where
    never : is_redirect answer ≡ true → ⊥
    never is =
        let left = left-so step.looked step.read step.before.journal place (MergeRow row) answer step.made g.journal step.answered is in
        let told_then = step.follows.told ∙ told in
        let leaves : t ≡ s place = step.leaves refl told_then ∙ ap (λ (es : List ContEntry). fold entered (s place) es) left.not_made in
        let stands : t ≡ step.read = leaves ∙ sym (step.held refl told_then left.seen) in
        kept-takes step.read place row answer (subst IsKept stands kept) left.refused is

    by : (b : Bool) → is_redirect answer ≡ b → cond b (row ∷ []) [] ≡ []
    by true is = absurd (never is)
    by false is = refl
