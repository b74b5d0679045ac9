-- What a step at a container, or nothing, leaves of what devices have.
use Rattle.std.proofs.Common.{◌≡◌, ℕ, List, Option, ◌⊎◌, inl, inr, refl, sym, subst}
use Rattle.std.specs.List.{All}
use Rattle.sw_container_steps.specs.Entries.{rows_of}
use Rattle.sw_container_steps.specs.declared.cont_answer.ContAnswer.{ContAnswer}
use Rattle.sw_container_steps.specs.declared.cont_change.ContChange.{ContChange}
use Rattle.sw_container_steps.specs.declared.cont_entry.ContEntry.{ContEntry}
use Rattle.sw_hashpath.specs.declared.place.Place.{Place}
use Rattle.sw_keeper.specs.declared.tables.Tables.{Tables}
use Rattle.sw_listing_laws.proofs.Bringing.{HasOnly, step-only}
use Rattle.sw_listing_laws.specs.Plain.{Cluster}
use Rattle.sw_machine.specs.Machine.{ContMakes, ContSide, Machine, rows_in}
use Rattle.sw_machine.specs.Sides.{TellsAt}
use Rattle.sw_peer.specs.Sights.{cont_lock}
use Rattle.sw_point_laws.proofs.Others.{here-or-not}
use Rattle.sw_point_laws.proofs.Outcomes.{Outcome, outcome}
use Rattle.sw_origin_laws.proofs.Lists.{AreListed, AreShards, list_of, ranges_in, step-listed}
use Rattle.sw_origin_laws.proofs.Origins.{AreOfRoots, IsOfOne}
use Rattle.sw_origin_laws.specs.Roots.{IsRootedRow}

-- what a step brings to a container is of its root
pub record MayCome (c : Cluster) (root : Place → Place) (m : Machine) (place : Place) (change : ContChange) : Type 0 where
  pub rows : All (IsRootedRow c root m place) (rows_in change)
  pub ranges : AreShards (IsOfOne root place) (ranges_in change)

module _ (c : Cluster) (root : Place → Place) (m : Machine) (have : AreOfRoots c root m m.containers) (after : ContSide) where
  pub have-same : ((d : ℕ) (p : Place) → after.half.holds d p ≡ m.containers.half.holds d p) → AreOfRoots c root m after
  have-same same = record {
    rows = λ d p. subst (λ (t : Option Tables). HasOnly (IsRootedRow c root m p) (rows_of t)) (sym (same d p)) (have.rows d p);
    lists = λ d p. subst (λ (t : Option Tables). AreListed (IsOfOne root p) (list_of t)) (sym (same d p)) (have.lists d p);
  }

  module _ (device : ℕ) (place : Place) (change : ContChange) (answer : ContAnswer) (added : List ContEntry)
      (makes : ContMakes c.nodes m.containers device place change answer added after) (told : TellsAt (cont_lock c.nodes) m.containers device place)
      (may : MayCome c root m place change) where
    abbrev here : Option Tables
    here = m.containers.half.holds device place

    -- what is so of this container, and was of each other one, is so of each
    each : (P : ℕ → Place → Option Tables → Type 0) → P device place (after.half.holds device place)
        → ((d : ℕ) (p : Place) → P d p (m.containers.half.holds d p)) → (d : ℕ) (p : Place) → P d p (after.half.holds d p)
    each P this others d p = by (here-or-not device place d p)
      where
        by : ((d ≡ device) × (p ≡ place)) ⊎ ((d ≡ device) × (p ≡ place) → ⊥) → P d p (after.half.holds d p)
        by (inl is) =
            subst (λ (e : ℕ). P e p (after.half.holds e p)) (sym is.0) (subst (λ (q : Place). P device q (after.half.holds device q)) (sym is.1) this)
        by (inr away) = subst (P d p) (sym (makes.moves.others refl d p away)) (others d p)

    here-rows : Outcome here place change answer (after.half.holds device place)
        → HasOnly (IsRootedRow c root m place) (rows_of (after.half.holds device place))
    here-rows (inl none) = subst (λ (t : Option Tables). HasOnly (IsRootedRow c root m place) (rows_of t)) (sym none.1) (have.rows device place)
    here-rows (inr all) =
        subst (λ (t : Option Tables). HasOnly (IsRootedRow c root m place) (rows_of t)) (sym all.1)
        (step-only (IsRootedRow c root m place) here here place change may.rows (have.rows device place))

    here-lists : Outcome here place change answer (after.half.holds device place) → AreListed (IsOfOne root place) (list_of (after.half.holds device place))
    here-lists (inl none) = subst (λ (t : Option Tables). AreListed (IsOfOne root place) (list_of t)) (sym none.1) (have.lists device place)
    here-lists (inr all) =
        subst (λ (t : Option Tables). AreListed (IsOfOne root place) (list_of t)) (sym all.1)
        (step-listed (IsOfOne root place) here place change may.ranges (have.lists device place))

    so : Outcome here place change answer (after.half.holds device place)
    so = outcome c.nodes m.containers device place change answer added after makes told

    pub have-made : AreOfRoots c root m after
    have-made = record {
      rows = each (λ d p t. HasOnly (IsRootedRow c root m p) (rows_of t)) (here-rows so) have.rows;
      lists = each (λ d p t. AreListed (IsOfOne root p) (list_of t)) (here-lists so) have.lists;
    }
