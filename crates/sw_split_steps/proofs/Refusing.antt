-- What is known where a step isn't refused.
use Rattle.std.proofs.Common.{◌≡◌, ℕ, Bool, true, false, ◌&&◌, ◌==◌, nat_lt, cond, List, [], ◌∷◌, length, Option, None, Some, refl, subst, arith}
use Rattle.std.specs.Bool.{⊤}
use Rattle.std.proofs.lemmas.Bool.Decides.{nat_tests}
use Rattle.std.specs.Option.{option_map, option_or}
use Rattle.sw_container_steps.specs.Presence.{is_present}
use Rattle.sw_container_steps.specs.Serving.{first_served, served, served_by}
use Rattle.sw_container_steps.specs.Steps.{closing_refusal, emptying_refusal, later_row, not_acked, ranging_refusal, refusal_over, refusal_with}
use Rattle.sw_container_steps.specs.Steps.{removal_refusal, removal_refusal_of, redirection, unacked_refusal}
use Rattle.sw_container_steps.specs.declared.cont_answer.ContAnswer.{ContAnswer}
use Rattle.sw_container_steps.specs.declared.cont_answer.ContAnswer.TheVariants as answers
use Rattle.sw_hashpath.specs.declared.place.Place.{Place}
use Rattle.sw_keeper.specs.declared.tables.Tables.{Tables}
use Rattle.sw_rows.specs.Sums.{count_of}
use Rattle.sw_rows.specs.declared.row.Row.{Row}
use Rattle.sw_shard_range.specs.declared.range.Range.{Range}

-- ---- the container is there, and has ranges or none

pub over-none : (t : Tables) (refusal : Tables → Option ContAnswer) → refusal_over (Some t) refusal ≡ None → (is_present (Some t) ≡ true) × (refusal t ≡ None)
over-none t refusal allowed = by (is_present (Some t)) refl allowed
  where
    by : (b : Bool) → is_present (Some t) ≡ b → cond b (refusal t) (Some answers.Absent) ≡ None → (is_present (Some t) ≡ true) × (refusal t ≡ None)
    by true is allowed = (is, allowed)
    by false is allowed = cc

pub with-none : (o : Option (List Range)) (refusal : List Range → Option ContAnswer) → refusal_with o refusal ≡ None
    → (rs : List Range) × (o ≡ Some rs) × (refusal rs ≡ None)
with-none None refusal allowed = cc
with-none (Some rs) refusal allowed = (rs, refl, allowed)

pub ranging-none : (o : Option (List Range)) → ranging_refusal o ≡ None → o ≡ None
ranging-none None allowed = refl
ranging-none (Some rs) allowed = cc

pub removal-none : (t : Tables) (time : ℕ) → removal_refusal (Some t) time ≡ None → t.ranges ≡ None
removal-none t time allowed = by (is_present (Some t)) t.ranges allowed
  where
    by : (b : Bool) (o : Option (List Range)) → cond b (removal_refusal_of o (count_of t.rows.list) t.put_time time) (Some answers.Absent) ≡ None → o ≡ None
    by true None allowed = refl
    by true (Some rs) allowed = cc
    by false o allowed = cc

-- ---- no name is left to a shard

-- the names of these rows are the container's own, whatever rows it has
abbrev pub AreOwn : Option (List Range) → ℕ → List Row → Type 0
AreOwn o cursor [] = ⊤
AreOwn o cursor (row ∷ rows) = (served_by o cursor row.name ≡ None) × AreOwn o cursor rows

pub unsplit-own : (o : Option (List Range)) (cursor : ℕ) (rows : List Row) → o ≡ None → AreOwn o cursor rows
unsplit-own None cursor [] is = tt
unsplit-own None cursor (row ∷ rows) is = (refl, unsplit-own None cursor rows is)
unsplit-own (Some rs) cursor rows is = cc

first-own : (t : Tables) (rows : List Row) → first_served t rows ≡ None → AreOwn t.ranges t.cursor rows
first-own t [] none = tt
first-own t (row ∷ rows) none = by (served t row.name) refl none (λ rest. first-own t rows rest)
  where
    by : (o : Option Place) → served t row.name ≡ o → option_or o (first_served t rows) ≡ None
        → (first_served t rows ≡ None → AreOwn t.ranges t.cursor rows) → AreOwn t.ranges t.cursor (row ∷ rows)
    by None is rest again = (is, again rest)
    by (Some shard) is rest again = cc

pub redirection-own : (t : Tables) (rows : List Row) → redirection (Some t) rows ≡ None → AreOwn t.ranges t.cursor rows
redirection-own t rows allowed = first-own t rows (by (first_served t rows) allowed)
  where
    by : (o : Option Place) → option_map answers.Redirect o ≡ None → o ≡ None
    by None is = refl
    by (Some shard) is = cc

-- ---- a range is closed, or the rows are taken away

-- the range at the cursor is there, and all its rows are acknowledged
pub record IsClosing (t : Tables) (rs : List Range) (devices : List ℕ) : Type 0 where
  pub is_open : nat_lt t.cursor (length rs) ≡ true
  pub acked : not_acked t.points t.cursor devices ≡ None
  pub later : later_row t rs t.cursor ≡ None

unacked-none : (t : Tables) (rs : List Range) (range : ℕ) (o : Option ℕ) → unacked_refusal t rs range o ≡ None → (o ≡ None) × (later_row t rs range ≡ None)
unacked-none t rs range (Some device) allowed = cc
unacked-none t rs range None allowed = (refl, by (later_row t rs range) allowed)
  where
    by : (o : Option ℕ) → option_map answers.Later o ≡ None → o ≡ None
    by None is = refl
    by (Some rowid) is = cc

pub closing-none : (t : Tables) (rs : List Range) (range : ℕ) (devices : List ℕ) → nat_lt range t.cursor ≡ false
    → closing_refusal t rs range devices ≡ None → IsClosing t rs devices
closing-none t rs range devices above allowed = by (nat_lt range t.cursor) above allowed
  where
    equal : (a b : ℕ) → (a == b) ≡ true → a ≡ b
    equal a b is = grind (arith, nat_tests, is)

    here : (b c : Bool) → (range == t.cursor) ≡ b → nat_lt range (length rs) ≡ c
        → cond (b && c) (unacked_refusal t rs range (not_acked t.points range devices)) (Some (answers.StillOpen t.cursor)) ≡ None
        → IsClosing t rs devices
    here true true is within allowed =
        let none = unacked-none t rs range (not_acked t.points range devices) allowed in
        let at = equal range t.cursor is in
        record {
          is_open = subst (λ (n : ℕ). nat_lt n (length rs) ≡ true) at within;
          acked = subst (λ (n : ℕ). not_acked t.points n devices ≡ None) at none.0;
          later = subst (λ (n : ℕ). later_row t rs n ≡ None) at none.1;
        }
    here true false is within allowed = cc
    here false c is within allowed = cc

    by : (b : Bool) → b ≡ false
        → cond b None (cond ((range == t.cursor) && nat_lt range (length rs)) (unacked_refusal t rs range (not_acked t.points range devices))
        (Some (answers.StillOpen t.cursor))) ≡ None
        → IsClosing t rs devices
    by true is allowed = cc
    by false is allowed = here (range == t.cursor) (nat_lt range (length rs)) refl refl allowed

pub emptying-none : (t : Tables) (rs : List Range) → emptying_refusal t rs ≡ None → nat_lt t.cursor (length rs) ≡ false
emptying-none t rs allowed = by (nat_lt t.cursor (length rs)) allowed
  where
    by : (b : Bool) → cond b (Some (answers.StillOpen t.cursor)) None ≡ None → b ≡ false
    by true is = cc
    by false is = refl
