-- What a step that closes a range, or takes the rows away, leaves of its container where it is acknowledged.
use Rattle.std.proofs.Common.{◌≡◌, ◌<◌, ◌+◌, ◌∙◌, ℕ, Bool, true, false, cond, List, [], ◌∷◌, length, nat_lt, Option, Some, None}
use Rattle.std.proofs.Common.{ap, arith, refl, subst, sym}
use Rattle.std.proofs.lemmas.Bool.{eqb-true, ltb-true}
use Rattle.std.specs.List.{fold}
use Rattle.std.specs.Prelude.{◌&&◌, ◌==◌}
use Rattle.sw_container_steps.specs.Entries.{closed, emptied, entered}
use Rattle.sw_container_steps.specs.Laws.{left}
use Rattle.sw_container_steps.specs.Presence.{deletion_after, is_no_time}
use Rattle.sw_container_steps.specs.Rules.{ChangesContainer, ContHistory, cont_ending, cont_rules}
use Rattle.sw_container_steps.specs.Steps.{closing_refusal, cont_refusal, emptying_refusal, entries_for, not_acked, refusal_with, unacked_refusal}
use Rattle.sw_container_steps.specs.declared.cont_answer.ContAnswer.{ContAnswer}
use Rattle.sw_container_steps.specs.declared.cont_answer.ContAnswer.TheVariants as answers
use Rattle.sw_container_steps.specs.declared.cont_change.ContChange.{ContChange}
use Rattle.sw_container_steps.specs.declared.cont_change.ContChange.TheVariants.{CloseRange, EmptyOut}
use Rattle.sw_container_steps.specs.declared.cont_entry.ContEntry.{ContEntry}
use Rattle.sw_container_steps.specs.declared.cont_entry.ContEntry.TheVariants.{Closed, Emptied}
use Rattle.sw_hashpath.specs.declared.place.Place.{Place}
use Rattle.sw_keeper.specs.declared.tables.Tables.{Tables}
use Rattle.sw_rows.specs.Rows.{no_rows_at}
use Rattle.sw_shard_range.specs.States.{all_in_state, with_state}
use Rattle.sw_shard_range.specs.declared.range.Range.{Range}
use Rattle.sw_step.specs.Rules.{Damages, Ending, Fails, Makes, Overflows, Refuses, Wants, has_made}
use Rattle.sw_step.specs.Steps.{Answers, EndsSeen, EndsUnseen, IsDone}

-- more ranges are closed than this number
abbrev pub ClosesAbove : ℕ → Option Tables → Type 0
ClosesAbove range t = (after : Tables) × (t ≡ Some after) × (range < after.cursor)

-- the rows are taken away
abbrev pub HasEmptied : Option Tables → Type 0
HasEmptied t = (after : Tables) × (t ≡ Some after) × (after.emptied ≡ true)

both : (a b : Bool) → (a && b) ≡ true → (a ≡ true) × (b ≡ true)
both true b is = (refl, is)
both false b is = cc

-- ---- what is left by one that isn't refused

module _ (x : Tables) (place : Place) (range : ℕ) (devices : List ℕ) where
  -- by whether the range is closed already
  abbrev Leaves : Bool → Type 0
  Leaves b = ClosesAbove range (fold entered (Some x) (cond b [] (Closed place range ∷ [])))

  closes-next : (ranges : List Range) → x.ranges ≡ Some ranges → range ≡ x.cursor → nat_lt range (length ranges) ≡ true → Leaves false
  closes-next ranges are first within =
      subst (λ (o : Option (List Range)). ClosesAbove range (Some (closed x o))) (sym are) (by (nat_lt x.cursor (length ranges))
      (ap (λ (n : ℕ). nat_lt n (length ranges)) (sym first) ∙ within))
    where
      next : Tables
      next = record x { ranges = Some (with_state 30 x.cursor ranges); cursor = x.cursor + 1 }

      by : (b : Bool) → b ≡ true → ClosesAbove range (Some (cond b next x))
      by true is = (next, refl, omega (arith, first))
      by false is = cc

  closes : (ranges : List Range) → x.ranges ≡ Some ranges → closing_refusal x ranges range devices ≡ None → (b : Bool) → nat_lt range x.cursor ≡ b → Leaves b
  closes ranges are allowed true before = (x, refl, ltb-true range x.cursor before)
  closes ranges are allowed false before =
      by ((range == x.cursor) && nat_lt range (length ranges)) refl
      (subst (λ (b : Bool). cond b None (cond ((range == x.cursor) && nat_lt range (length ranges))
      (unacked_refusal x ranges range (not_acked x.points range devices)) (Some (answers.StillOpen x.cursor))) ≡ None) before allowed)
    where
      by : (b : Bool) → ((range == x.cursor) && nat_lt range (length ranges)) ≡ b
          → cond b (unacked_refusal x ranges range (not_acked x.points range devices)) (Some (answers.StillOpen x.cursor)) ≡ None → Leaves false
      by true is none =
          let found = both (range == x.cursor) (nat_lt range (length ranges)) is in
          closes-next ranges are (eqb-true range x.cursor found.0) found.1
      by false is none = cc

pub closing-leaves : (t : Option Tables) (place : Place) (range : ℕ) (devices : List ℕ) → cont_refusal t place (CloseRange range devices) ≡ None
    → ClosesAbove range (left t place (CloseRange range devices))
closing-leaves None place range devices allowed = cc
closing-leaves (Some x) place range devices allowed = by (is_no_time (deletion_after x.put_time x.delete_time)) allowed
  where
    among : (o : Option (List Range)) → x.ranges ≡ o → refusal_with o (λ ranges. closing_refusal x ranges range devices) ≡ None
        → ClosesAbove range (left (Some x) place (CloseRange range devices))
    among None are none = cc
    among (Some ranges) are none = closes x place range devices ranges are none (nat_lt range x.cursor) refl

    by : (b : Bool) → cond b (refusal_with x.ranges (λ ranges. closing_refusal x ranges range devices)) (Some answers.Absent) ≡ None
        → ClosesAbove range (left (Some x) place (CloseRange range devices))
    by true none = among x.ranges refl none
    by false none = cc

pub emptying-leaves : (t : Option Tables) (place : Place) → cont_refusal t place EmptyOut ≡ None → HasEmptied (left t place EmptyOut)
emptying-leaves None place allowed = cc
emptying-leaves (Some x) place allowed = by (is_no_time (deletion_after x.put_time x.delete_time)) allowed
  where
    gone : (ranges : List Range) (b : Bool) → cond b (Some (answers.StillOpen x.cursor)) None ≡ None
        → HasEmptied (Some (cond b x (record x { rows = no_rows_at x.rows.top; ranges = Some (all_in_state 40 ranges); emptied = true })))
    gone ranges true none = cc
    gone ranges false none = (record x { rows = no_rows_at x.rows.top; ranges = Some (all_in_state 40 ranges); emptied = true }, refl, refl)

    whether : (ranges : List Range) → x.ranges ≡ Some ranges → emptying_refusal x ranges ≡ None → (b : Bool) → x.emptied ≡ b
        → HasEmptied (fold entered (Some x) (cond b [] (Emptied place ∷ [])))
    whether ranges are none true was = (x, refl, was)
    whether ranges are none false was =
        subst (λ (o : Option (List Range)). HasEmptied (Some (emptied x o))) (sym are) (gone ranges (nat_lt x.cursor (length ranges)) none)

    among : (o : Option (List Range)) → x.ranges ≡ o → refusal_with o (λ ranges. emptying_refusal x ranges) ≡ None → HasEmptied (left (Some x) place EmptyOut)
    among None are none = cc
    among (Some ranges) are none = whether ranges are none x.emptied refl

    by : (b : Bool) → cond b (refusal_with x.ranges (λ ranges. emptying_refusal x ranges)) (Some answers.Absent) ≡ None
        → HasEmptied (left (Some x) place EmptyOut)
    by true none = among x.ranges refl none
    by false none = cc

-- ---- one step of a lock that tells, and that nobody else changes

module _ (alone : Bool) (h : ContHistory) (s : Place → Option Tables) (place : Place) (change : ContChange) (answer : ContAnswer) (g : ContHistory)
    (t : Option Tables) (step : ChangesContainer alone h s place change answer g t) (sure : alone ≡ true) (told : h.told ≡ true) where
  -- it wasn't refused, and left what it leaves
  pub made-leaves : has_made (cont_ending answer) ≡ true → (cont_refusal (s place) place change ≡ None) × (t ≡ left (s place) place change)
  made-leaves acknowledged = by step.looked refl (cont_ending answer) refl acknowledged step.answered
    where
      before : step.before.told ≡ true
      before = step.follows.told ∙ told

      there : step.looked ≡ true → IsDone cont_rules step.read step.before.journal place change answer step.made g.journal
          → (cont_refusal (s place) place change ≡ None) × (t ≡ left (s place) place change)
      there looked d =
          let stood : step.read ≡ s place = step.held sure before looked in (
            ap (λ (x : Option Tables). cont_refusal x place change) (sym stood) ∙ d.not_refused,
            step.leaves sure before
                ∙ (ap (λ (es : List ContEntry). fold entered (s place) es) d.is_made
                ∙ ap (λ (x : Option Tables). fold entered (s place) (entries_for x place change)) stood),
          )

      by : (looked : Bool) → step.looked ≡ looked → (e : Ending) → cont_ending answer ≡ e → has_made e ≡ true
          → Answers cont_rules looked step.read step.before.journal place change answer step.made g.journal
          → (cont_refusal (s place) place change ≡ None) × (t ≡ left (s place) place change)
      by true saw Makes ends made so =
          there saw (subst (λ (e : Ending). EndsSeen cont_rules e step.read step.before.journal place change answer step.made g.journal) ends so)
      by false saw Makes ends made so =
          absurd (subst (λ (e : Ending). EndsUnseen cont_rules e step.before.journal step.made g.journal) ends so)
      by looked saw Refuses ends made so = cc
      by looked saw Overflows ends made so = cc
      by looked saw Fails ends made so = cc
      by looked saw Wants ends made so = cc
      by looked saw Damages ends made so = cc
