-- What a call at the containers makes of what the user of a door knows. (This project's own.)
use Rattle.std.specs.Prelude.{◌≡◌, ℕ, ◌≤◌, Bool, true, false, [], Option, Result, Ok, Err}
use Rattle.sw_container_steps.specs.Halves.{ChangesAt, ReadsAt}
use Rattle.sw_container_steps.specs.Rules.{cont_ending, cont_rules}
use Rattle.sw_container_steps.specs.declared.cont_answer.ContAnswer.{ContAnswer}
use Rattle.sw_container_steps.specs.declared.cont_change.ContChange.{ContChange}
use Rattle.sw_hashpath.specs.declared.place.Place.{Place}
use Rattle.sw_history.specs.Halves.{HalfMoves}
use Rattle.sw_keeper.specs.declared.tables.Tables.{Tables}
use Rattle.sw_peer.specs.Sights.{Sight, Trails, cont_lock}
use Rattle.sw_peer.specs.declared.cont_event.ContEvent.{ContEvent}
use Rattle.sw_peer.specs.declared.cont_event.ContEvent.TheVariants.{Changed}
use Rattle.sw_peer.specs.declared.line.Event.TheVariants.{AtContainer}
use Rattle.sw_peer.specs.declared.link.Link.{Link}
use Rattle.sw_step.specs.Rules.{has_wanted}
use Rattle.sw_step.specs.Steps.{added_by}

-- steps at these places of these devices: no object is touched
pub record ContMoves (at : ℕ → Place → Type 0) (old new : Sight) : Type 0 where
  pub nodes : new.nodes ≡ old.nodes
  pub objects : new.objects ≡ old.objects
  pub containers : HalfMoves (cont_lock old.nodes) new.alone at old.containers new.containers
  pub alone : new.alone ≡ true → old.alone ≡ true
  pub faults : old.faults ≤ new.faults

-- one place of one device
abbrev pub IsIn : ℕ → Place → ℕ → Place → Type 0
IsIn device place d other = (d ≡ device) × (other ≡ place)

-- every device holds the tables that it held
abbrev pub HoldsTables : Sight → Sight → Type 0
HoldsTables old new = new.alone ≡ true → (d : ℕ) (place : Place) → new.containers.holds d place ≡ old.containers.holds d place

abbrev pub is_wanting_cont : ContAnswer → Bool
is_wanting_cont answer = has_wanted (cont_ending answer)

-- ---- one step, as it comes to a device and is answered there

-- a step that may change something
pub record IsContMade (link : Link) (device : ℕ) (place : Place) (change : ContChange) (old : Sight) (answer : ContAnswer) (new : Sight) : Type 0 where
  pub moves : ContMoves (IsIn device place) old new
  pub step : ChangesAt (cont_lock old.nodes) new.alone device place change old.containers answer new.containers
  pub trail : Trails old
      (record { device = device; link = link; event = AtContainer (Changed place change answer) (added_by cont_rules step.step); added = [] })
      (is_wanting_cont answer) new

module _ {A : Type 0} where
  abbrev pub is_wanting_look : Result A ContAnswer → Bool
  is_wanting_look (Ok got) = false
  is_wanting_look (Err answer) = is_wanting_cont answer

  -- a step that reads one container: what `reading` tells of its tables, and how a line tells of it
  pub record IsLooked (link : Link) (device : ℕ) (place : Place) (reading : Option Tables → ℕ → Result A ContAnswer) (event : Result A ContAnswer → ContEvent)
      (old : Sight) (got : Result A ContAnswer) (new : Sight) : Type 0 where
    pub moves : ContMoves (IsIn device place) old new
    pub holds_all : HoldsTables old new
    pub step : ReadsAt (cont_lock old.nodes) new.alone device place reading old.containers got new.containers
    pub trail : Trails old (record { device = device; link = link; event = AtContainer (event got) step.step.follows.entries.0; added = [] })
        (is_wanting_look got) new
