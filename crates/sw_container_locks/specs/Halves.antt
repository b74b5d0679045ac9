-- What is known by all container locks to the user of a door. (This project's own.)
use Rattle.std.specs.Prelude.{◌≡◌, ℕ, Bool, true, Option, None, Some, if◌then◌else◌, List}
use Rattle.std.specs.List.{slice_get}
use Rattle.sw_container_db.specs.ContDirs.{cont_history_of}
use Rattle.sw_container_steps.specs.Halves.{ContHalf}
use Rattle.sw_container_steps.specs.Rules.{ContHistory, cont_rules}
use Rattle.sw_hashpath.specs.declared.place.Place.{Place}
use Rattle.sw_keeper.specs.declared.tables.Tables.{Tables}
use Rattle.sw_step.specs.Rules.{CanStand}
use Rattle.sw_container_locks.specs.Limits.{empty_journal}
use Rattle.sw_container_locks.specs.declared.cont_slot.ContSlot.{ContSlot}
use Rattle.sw_container_locks.specs.declared.cont_slot.ContSlot.TheVariants as slots

-- a history in which nothing has happened, of a lock under which nothing was held
abbrev pub empty_history : ContHistory
empty_history = record { told = true; opening = λ place. None; journal = empty_journal; faults = 0 }

module _ {K : Type 0} (tells : K → Bool) (holds : K → Place → Option Tables) (faults : K → ℕ) where
  -- the history of a lock; where it isn't open one in which nothing has happened
  abbrev pub cont_seen_of : Option (ContSlot K) → ContHistory
  cont_seen_of (Some (slots.Open k)) = cont_history_of tells holds faults k
  cont_seen_of (Some slots.Lifted) = empty_history
  cont_seen_of (Some slots.Empty) = empty_history
  cont_seen_of None = empty_history

  -- what is held at a place under a lock, where its keeper tells it
  abbrev pub cont_held_of : Option (ContSlot K) → Place → Option Tables
  cont_held_of (Some (slots.Open k)) place = if tells k.keeper then holds k.keeper place else None
  cont_held_of (Some slots.Lifted) place = None
  cont_held_of (Some slots.Empty) place = None
  cont_held_of None place = None

  -- all of it, where the places of each device are under these locks
  abbrev pub half_of : (ℕ → Place → ℕ) → List (ContSlot K) → ContHalf
  half_of lock all = record {
    seen = λ l. cont_seen_of (slice_get all l);
    holds = λ d place. cont_held_of (slice_get all (lock d place)) place;
  }

  -- each place may stand for what is held there under this lock
  abbrev pub MayStand : List (ContSlot K) → ℕ → Type 0
  MayStand all l = (cont_seen_of (slice_get all l)).told ≡ true → (place : Place)
      → CanStand cont_rules (cont_seen_of (slice_get all l)) place (cont_held_of (slice_get all l) place)
