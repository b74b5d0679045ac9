-- A step at a container of the machine is a run of its ledger.
use Rattle.std.proofs.Common.{◌≡◌, ℕ, List, [], map, Option, ◌⊎◌, inl, inr, refl, sym, ap, subst}
use Rattle.sw_container_steps.specs.Entries.{rows_of}
use Rattle.sw_container_steps.specs.Steps.{entries_for}
use Rattle.sw_container_steps.specs.declared.cont_answer.ContAnswer.{ContAnswer}
use Rattle.sw_container_steps.specs.declared.cont_change.ContChange.{ContChange}
use Rattle.sw_container_steps.specs.declared.cont_entry.ContEntry.{ContEntry}
use Rattle.sw_hashpath.specs.declared.place.Place.{Place}
use Rattle.sw_keeper.specs.declared.tables.Tables.{Tables}
use Rattle.sw_machine.specs.Machine.{ContMakes, Machine}
use Rattle.sw_machine.specs.Sides.{TellsAt}
use Rattle.sw_peer.specs.Sights.{Nodes, cont_lock}
use Rattle.sw_rows.specs.Rows.{IsListed}
use Rattle.sw_shard_laws.specs.Changes.{Line, Runs}
use Rattle.sw_shard_laws.specs.Ledger.{Ground}
use Rattle.sw_split_steps.proofs.Ordering.{steps-keep-order}
use Rattle.sw_split_steps.specs.Tables.{IsInOrder, tables_of}
use Rattle.sw_point_laws.proofs.Entering.{line}
use Rattle.sw_point_laws.proofs.Leaving.{all-listed}
use Rattle.sw_point_laws.proofs.Making.{MayMake, makes-runs}
use Rattle.sw_point_laws.proofs.Outcomes.{Outcome, outcome}
use Rattle.sw_point_laws.proofs.Others.{Others, here-or-not, same-ledger}
use Rattle.sw_point_laws.specs.Laws.{ledger_of}

-- from the ledger of one machine changes lead to that of the other, whose tables are in order
pub record Turns (g : Ground) (m after : Machine) : Type 0 where
  pub lines : List Line
  pub run : Runs g (ledger_of m) lines (ledger_of after)
  pub ordered : (device : ℕ) (place : Place) → IsInOrder (after.containers.half.holds device place)
  pub listed : (device : ℕ) (place : Place) → IsListed (rows_of (after.containers.half.holds device place))

module _ (g : Ground) (m : Machine) (ordered : (device : ℕ) (place : Place) → IsInOrder (m.containers.half.holds device place))
    (listed : (device : ℕ) (place : Place) → IsListed (rows_of (m.containers.half.holds device place))) (after : Machine) where
  -- where all containers stay
  pub stays-turns : ((d : ℕ) (p : Place) → after.containers.half.holds d p ≡ m.containers.half.holds d p) → Turns g m after
  stays-turns same = record {
    lines = [];
    run = λ i d p. tables_of (same d p i);
    ordered = λ d p. subst IsInOrder (sym (same d p)) (ordered d p);
    listed = λ d p. subst (λ (t : Option Tables). IsListed (rows_of t)) (sym (same d p)) (listed d p);
  }

  module _ (nodes : Nodes) (device : ℕ) (place : Place) (change : ContChange) (answer : ContAnswer) (added : List ContEntry)
      (makes : ContMakes nodes m.containers device place change answer added after.containers)
      (told : TellsAt (cont_lock nodes) m.containers device place) where
    abbrev here : Option Tables
    here = m.containers.half.holds device place

    -- each other container stays
    each : (d : ℕ) (p : Place) → (after.containers.half.holds d p ≡ m.containers.half.holds d p) ⊎ ((d ≡ device) × (p ≡ place))
    each d p = by (here-or-not device place d p)
      where
        by : ((d ≡ device) × (p ≡ place)) ⊎ ((d ≡ device) × (p ≡ place) → ⊥)
            → (after.containers.half.holds d p ≡ m.containers.half.holds d p) ⊎ ((d ≡ device) × (p ≡ place))
        by (inl is) = inr is
        by (inr apart) = inl (makes.moves.others refl d p apart)

    -- what is so of this container, and was of each other one, is so of each
    all : (P : Option Tables → Type 0) → P (after.containers.half.holds device place) → ((d : ℕ) (p : Place) → P (m.containers.half.holds d p))
        → (d : ℕ) (p : Place) → P (after.containers.half.holds d p)
    all P this old d p = by (each d p)
      where
        by : (after.containers.half.holds d p ≡ m.containers.half.holds d p) ⊎ ((d ≡ device) × (p ≡ place)) → P (after.containers.half.holds d p)
        by (inl same) = subst P (sym same) (old d p)
        by (inr is) =
            subst (λ (e : ℕ). P (after.containers.half.holds e p)) (sym is.0)
            (subst (λ (q : Place). P (after.containers.half.holds device q)) (sym is.1) this)

    others : Others device place (ledger_of m) (ledger_of after)
    others d p = by (each d p)
      where
        by : (after.containers.half.holds d p ≡ m.containers.half.holds d p) ⊎ ((d ≡ device) × (p ≡ place))
            → (ledger_of after d p ≡ ledger_of m d p) ⊎ ((d ≡ device) × (p ≡ place))
        by (inl same) = inl (ap tables_of same)
        by (inr is) = inr is

    -- a step that may be made
    pub made-turns : MayMake g (ledger_of m) place here change → Turns g m after
    made-turns may = by (outcome nodes m.containers device place change answer added after.containers makes told)
      where
        by : Outcome here place change answer (after.containers.half.holds device place) → Turns g m after
        by (inl none) = record {
          lines = [];
          run = same-ledger device place (ledger_of m) (ledger_of after) others (ap tables_of none.1);
          ordered = all IsInOrder (subst IsInOrder (sym none.1) (ordered device place)) ordered;
          listed =
              all (λ t. IsListed (rows_of t)) (subst (λ (t : Option Tables). IsListed (rows_of t)) (sym none.1) (listed device place)) listed;
        }
        by (inr is) = record {
          lines = map (line g device place change) (entries_for here place change);
          run =
              makes-runs g device place (ledger_of m) here (ordered device place) refl (ledger_of after) change is.0 (ap tables_of is.1) others may;
          ordered =
              all IsInOrder (subst IsInOrder (sym is.1) (steps-keep-order here place change (ordered device place) is.0)) ordered;
          listed =
              all (λ t. IsListed (rows_of t))
              (subst (λ (t : Option Tables). IsListed (rows_of t)) (sym is.1) (all-listed here (entries_for here place change) (listed device place))) listed;
        }
