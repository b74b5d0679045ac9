-- What a line that is new says of the ledger behind it.
use Rattle.std.proofs.Common.{◌≡◌, ℕ, true, List, [], ◌∷◌, Option, None, Some, Result, inl, inr}
use Rattle.std.proofs.Common.{refl, sym, ◌∙◌, ap, subst, true≢false}
use Rattle.std.proofs.lemmas.List.Elements.{All-head}
use Rattle.std.specs.Option.{IsSome}
use Rattle.sw_container_steps.proofs.Seeing.{steps-hold}
use Rattle.sw_container_steps.specs.Entries.{rows_of}
use Rattle.sw_container_steps.specs.Laws.{left}
use Rattle.sw_container_steps.specs.Rules.{cont_ending}
use Rattle.sw_container_steps.specs.Steps.{cont_refusal}
use Rattle.sw_container_steps.specs.declared.cont_answer.ContAnswer.{ContAnswer}
use Rattle.sw_container_steps.specs.declared.cont_answer.ContAnswer.TheVariants as answers
use Rattle.sw_container_steps.specs.declared.cont_change.ContChange.{ContChange}
use Rattle.sw_container_steps.specs.declared.cont_change.ContChange.TheVariants.{Create, Remove, MergeRow, MergeRows, SetRanges}
use Rattle.sw_container_steps.specs.declared.cont_change.ContChange.TheVariants.{Ack, CloseRange, EmptyOut, SetSync}
use Rattle.sw_container_steps.specs.declared.cont_entry.ContEntry.{ContEntry}
use Rattle.sw_hashpath.specs.declared.place.Place.{Place}
use Rattle.sw_keeper.specs.declared.tables.Tables.{Tables}
use Rattle.sw_machine.specs.Machine.{ContMakes, ContReads, Machine}
use Rattle.sw_machine.specs.Sides.{TellsAt}
use Rattle.sw_peer.specs.Sights.{Nodes, cont_lock}
use Rattle.sw_rows.specs.Rows.{IsListed, Listed}
use Rattle.sw_rows.specs.declared.row.Row.{Row}
use Rattle.sw_shard_laws.specs.Ledger.{Ground, Holds, served, table_at}
use Rattle.sw_split_steps.specs.Tables.{IsInOrder, tables_of}
use Rattle.sw_step.specs.Rules.{Refuses, has_made}
use Rattle.sw_point_laws.proofs.Going.{Goes}
use Rattle.sw_point_laws.proofs.Leaving.{rows-standing}
use Rattle.sw_point_laws.proofs.Merging.{redirected-left, taken-held}
use Rattle.sw_point_laws.proofs.Outcomes.{Outcome, outcome, refused}
use Rattle.sw_point_laws.proofs.Reading.{read-told}
use Rattle.sw_point_laws.proofs.Saying.{SaysMade, SaysRead, WasMade}
use Rattle.sw_point_laws.specs.Laws.{ledger_of}

module _ (g : Ground) (nodes : Nodes) (m : Machine) (device : ℕ) (place : Place) (told : TellsAt (cont_lock nodes) m.containers device place)
    (after : Machine) (goes : Goes g (ledger_of m) (ledger_of after)) where
  abbrev here : Option Tables
  here = m.containers.half.holds device place

  -- ---- a step

  some-tables : (o : Option Tables) → IsSome o → IsSome (tables_of o)
  some-tables None some = cc
  some-tables (Some t) some = refl

  made-leaves : (change : ContChange) → IsInOrder here → cont_refusal here place change ≡ None
      → after.containers.half.holds device place ≡ left here place change → WasMade g (ledger_of after) device place change
  made-leaves (Create time) order allowed is =
      subst (λ (o : Option Tables). IsSome (tables_of o)) (sym is)
      (some-tables (left here place (Create time)) (steps-hold here place (Create time) allowed))
  made-leaves (Remove time) order allowed is = tt
  made-leaves (MergeRow row) order allowed is =
      All-head (Holds g (ledger_of after) device place) row []
      (taken-held g (ledger_of after) device place here (row ∷ []) order allowed (ap tables_of is))
  made-leaves (MergeRows rows) order allowed is = taken-held g (ledger_of after) device place here rows order allowed (ap tables_of is)
  made-leaves (SetRanges ranges) order allowed is = tt
  made-leaves (Ack range other rowid) order allowed is = tt
  made-leaves (CloseRange range devices) order allowed is = tt
  made-leaves EmptyOut order allowed is = tt
  made-leaves (SetSync other rowid) order allowed is = tt

  pub made-says : (change : ContChange) (answer : ContAnswer) (added : List ContEntry)
      → ContMakes nodes m.containers device place change answer added after.containers
      → IsInOrder here → SaysMade g (ledger_of after) device place change answer
  made-says change answer added makes order = record { made = made; served = left-to }
    where
      made : has_made (cont_ending answer) ≡ true → WasMade g (ledger_of after) device place change
      made is = by (outcome nodes m.containers device place change answer added after.containers makes told)
        where
          by : Outcome here place change answer (after.containers.half.holds device place) → WasMade g (ledger_of after) device place change
          by (inl none) = absurd (true≢false (sym is ∙ none.0))
          by (inr all) = made-leaves change order all.0 all.1

      left-to : (row : Row) (shard : Place) → change ≡ MergeRow row → answer ≡ answers.Redirect shard
          → served (table_at (ledger_of after) device place) row.name ≡ Some shard
      left-to row shard change_is answer_is =
          let ends : cont_ending answer ≡ Refuses = ap cont_ending answer_is in
          let was = refused nodes m.containers device place change answer added after.containers makes told ends in
          let so : cont_refusal here place (MergeRow row) ≡ Some (answers.Redirect shard) =
          subst (λ (a : ContAnswer). cont_refusal here place (MergeRow row) ≡ Some a) answer_is
          (subst (λ (c : ContChange). cont_refusal here place c ≡ Some answer) change_is was) in
          (goes.later device place).serving row.name shard (redirected-left here place row shard so)

  -- ---- a read

  pub read-says : {A : Type 0} (reading : Option Tables → ℕ → Result A ContAnswer) (got : Result A ContAnswer) (added : List ContEntry)
      → ContReads nodes m.containers device place reading got added after.containers
      → ((d : ℕ) (p : Place) → IsListed (rows_of (m.containers.half.holds d p))) → SaysRead (ledger_of after) device place reading got
  read-says reading got added reads listed x is =
      let was = read-told nodes m.containers device place reading got added after.containers reads told x is in
      record {
        tables = here;
        front = was.0;
        told = was.1;
        listed = subst (λ (l : Listed). IsListed l) (sym (rows-standing here)) (listed device place);
        later = goes.later device place;
      }
