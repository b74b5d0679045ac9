-- A container leaves rows to shards alone: where one answers that it left a row's name to another container, that one is hidden.
use Rattle.std.proofs.Common.{◌≡◌, ℕ, Bool, true, false, cond, nat_lt, List, [], ◌∷◌, ◌++◌, subst, Option, None, Some, Ok}
use Rattle.std.specs.List.{slice_get}
use Rattle.std.specs.Option.{option_map, option_or}
use Rattle.sw_container_steps.specs.Presence.{is_present}
use Rattle.sw_container_steps.specs.Rules.{ContJournal, cont_rules}
use Rattle.sw_container_steps.specs.Serving.{served, served_by, shard_at}
use Rattle.sw_container_steps.specs.Steps.{cont_refusal, creator, is_a_row, redirection}
use Rattle.sw_container_steps.specs.declared.cont_answer.ContAnswer.{ContAnswer}
use Rattle.sw_container_steps.specs.declared.cont_answer.ContAnswer.TheVariants as answers
use Rattle.sw_container_steps.specs.declared.cont_change.ContChange.TheVariants.{MergeRow}
use Rattle.sw_container_steps.specs.declared.cont_entry.ContEntry.{ContEntry}
use Rattle.sw_hashpath.specs.declared.place.Place.{Place}
use Rattle.sw_keeper.specs.declared.tables.Tables.{Tables}
use Rattle.sw_peer.specs.ContSights.{IsContMade}
use Rattle.sw_peer.specs.Sights.{Calls, Comes, Sight}
use Rattle.sw_peer.specs.declared.link.Link.{Link}
use Rattle.sw_rows.specs.declared.row.Row.{Row}
use Rattle.sw_shard_range.specs.Names.{is_hidden}
use Rattle.sw_shard_range.specs.Ranges.{index_in}
use Rattle.sw_shard_range.specs.declared.range.Range.{Range}
use Rattle.sw_step.specs.Steps.{Answers}

module _ (shard : Place) where
  abbrev IsHidden : Type 0
  IsHidden = is_hidden shard ≡ true

  -- the shard of a range is
  range-hidden : (found : Option Range) → option_map (λ r. r.shard) found ≡ Some shard → IsHidden
  range-hidden None is = cc
  range-hidden (Some range) is = let same : range.shard ≡ shard = cc in subst (λ (p : Place). is_hidden p ≡ true) same range.hidden

  by-hidden : (ranges : Option (List Range)) (cursor : ℕ) (name : List ℕ) → served_by ranges cursor name ≡ Some shard → IsHidden
  by-hidden None cursor name is = cc
  by-hidden (Some ranges) cursor name is = by (nat_lt (index_in ranges name) cursor) is
    where
      by : (b : Bool) → cond b (shard_at ranges (index_in ranges name)) None ≡ Some shard → IsHidden
      by true same = range-hidden (slice_get ranges (index_in ranges name)) same
      by false same = cc

  one-hidden : (found : Option Place) → (found ≡ Some shard → IsHidden) → option_map answers.Redirect (option_or found None) ≡ Some (answers.Redirect shard)
      → IsHidden
  one-hidden None hides is = cc
  one-hidden (Some place) hides is = hides cc

  redirection-hidden : (t : Option Tables) (row : Row) → redirection t (row ∷ []) ≡ Some (answers.Redirect shard) → IsHidden
  redirection-hidden None row is = cc
  redirection-hidden (Some t) row is = one-hidden (served t row.name) (by-hidden t.ranges t.cursor row.name) is

  refusal-hidden : (t : Option Tables) (place : Place) (row : Row) → cont_refusal t place (MergeRow row) ≡ Some (answers.Redirect shard) → IsHidden
  refusal-hidden t place row is = by (is_present t) is
    where
      created : (b : Bool) → cond b None (Some answers.Absent) ≡ Some (answers.Redirect shard) → IsHidden
      created true same = cc
      created false same = cc

      by : (b : Bool) → cond b (redirection t (row ∷ [])) (cond (is_a_row (creator t place (row ∷ []))) None (Some answers.Absent))
          ≡ Some (answers.Redirect shard) → IsHidden
      by true same = redirection-hidden t row same
      by false same = created (is_a_row (creator t place (row ∷ []))) same

  module _ (place : Place) (row : Row) where
    answered-hidden : (looked : Bool) (read : Option Tables) (j : ContJournal) (made : List ContEntry) (after : ContJournal)
        → Answers cont_rules looked read j place (MergeRow row) (answers.Redirect shard) made after → IsHidden
    answered-hidden true read j made after refused = refusal-hidden read place row refused.refused
    answered-hidden false read j made after never = absurd never

    module _ (link : Link) (to : ℕ) where
      came-hidden : (earlier : List ContAnswer) (a b : Sight)
          → Comes (IsContMade link to place (MergeRow row)) a (earlier ++ answers.Redirect shard ∷ []) b → IsHidden
      came-hidden [] a b came =
          let step = came.1.step.step in
          answered-hidden step.looked step.read step.before.journal step.made _ step.answered
      came-hidden (answer ∷ earlier) a b came = came-hidden earlier came.0 b came.2

      -- a shard to which a row was left
      pub left-hidden : (a b : Sight) → Calls (IsContMade link to place (MergeRow row)) a link (Ok (answers.Redirect shard)) b → IsHidden
      left-hidden a b call = came-hidden call.0 a b call.2
