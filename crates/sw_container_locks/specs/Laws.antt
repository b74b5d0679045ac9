-- What the calls are, to the user of a door: steps, reads and restarts of a device, whatever the locks are numbered by. (This project's own.)
use Rattle.std.specs.Prelude.{◌≡◌, ◌≢◌, ℕ, ◌<◌, ◌≤◌, ◌⊎◌, Bool, true, List, Option, Result}
use Rattle.sw_container_steps.specs.Halves.{ChangesAt, ReadsAt}
use Rattle.sw_container_steps.specs.Rules.{cont_rules}
use Rattle.sw_container_steps.specs.declared.cont_answer.ContAnswer.{ContAnswer}
use Rattle.sw_container_steps.specs.declared.cont_change.ContChange.{ContChange}
use Rattle.sw_hashpath.specs.declared.place.Place.{Place}
use Rattle.sw_history.specs.Halves.{HalfMoves, HalfRestarts}
use Rattle.sw_peer.specs.ContSights.{IsIn}
use Rattle.sw_peer.specs.declared.cont_event.ContEvent.{ContEvent}
use Rattle.sw_peer.specs.declared.cont_event.ContEvent.TheVariants.{Changed}
use Rattle.sw_peer.specs.declared.line.Line.{Line}
use Rattle.sw_peer.specs.declared.link.Link.{Link}
use Rattle.sw_keeper.specs.declared.tables.Tables.{Tables}
use Rattle.sw_step.specs.Steps.{added_by}
use Rattle.sw_container_locks.specs.Halves.{half_of}
use Rattle.sw_container_locks.specs.Making.{IsChangedAt, IsReadAt, line_of}
use Rattle.sw_container_locks.specs.Slots.{AreSetDown, Lifts}
use Rattle.sw_container_locks.specs.declared.cont_slot.ContSlot.{ContSlot}

-- the lock of this place at this device is none of another device
abbrev pub IsOfDevice : (ℕ → Place → ℕ) → ℕ → Place → Type 0
IsOfDevice lock device place = (d : ℕ) (p : Place) → lock d p ≡ lock device place → d ≡ device

-- the locks of a device are exactly those from one on, up to another
pub record HasLocks (lock : ℕ → Place → ℕ) (device first past : ℕ) : Type 0 where
  pub own : (place : Place) → (first ≤ lock device place) × (lock device place < past)
  pub others : (d : ℕ) (place : Place) → d ≢ device → (lock d place < first) ⊎ (past ≤ lock d place)

module _ {K : Type 0} (tells : K → Bool) (holds : K → Place → Option Tables) (faults : K → ℕ) (lock : ℕ → Place → ℕ) where
  -- a change of one place of one device, from one half to the next, and its line
  pub record ChangesAtLock (link : Link) (device : ℕ) (place : Place) (change : ContChange) (old : List (ContSlot K)) (answer : ContAnswer)
      (new : List (ContSlot K)) (line : Line) : Type 0 where
    pub moves : HalfMoves lock true (IsIn device place) (half_of tells holds faults lock old) (half_of tells holds faults lock new)
    pub step : ChangesAt lock true device place change (half_of tells holds faults lock old) answer (half_of tells holds faults lock new)
    pub line_is : line ≡ line_of link device (Changed place change answer) (added_by cont_rules step.step)

  -- a read of one: every device holds what it held
  pub record ReadsAtLock {A : Type 0} (link : Link) (device : ℕ) (place : Place) (reading : Option Tables → ℕ → Result A ContAnswer)
      (event : Result A ContAnswer → ContEvent) (old : List (ContSlot K)) (got : Result A ContAnswer) (new : List (ContSlot K)) (line : Line) : Type 0 where
    pub moves : HalfMoves lock true (IsIn device place) (half_of tells holds faults lock old) (half_of tells holds faults lock new)
    pub holds_all : (d : ℕ) (p : Place) → (half_of tells holds faults lock new).holds d p ≡ (half_of tells holds faults lock old).holds d p
    pub step : ReadsAt lock true device place reading (half_of tells holds faults lock old) got (half_of tells holds faults lock new)
    pub line_is : line ≡ line_of link device (event got) step.step.follows.entries.0

module _ {K : Type 0} (tells : K → Bool) (holds : K → Place → Option Tables) (faults calls : K → ℕ) where
  -- a step that may change a container, at the lock of its place, is one of its device
  abbrev pub ChangeMoves : Type 0
  ChangeMoves = (lock : ℕ → Place → ℕ) (link : Link) (device : ℕ) (place : Place) (change : ContChange) (old : List (ContSlot K)) (answer : ContAnswer)
      (new : List (ContSlot K)) (line : Line) → IsOfDevice lock device place
      → IsChangedAt tells holds faults calls (lock device place) link device place change old answer new line
      → ChangesAtLock tells holds faults lock link device place change old answer new line

  -- so is a read
  abbrev pub ReadMoves : Type 0 → Type 0
  ReadMoves A = (lock : ℕ → Place → ℕ) (link : Link) (device : ℕ) (place : Place) (reading : Option Tables → ℕ → Result A ContAnswer)
      (event : Result A ContAnswer → ContEvent) (old : List (ContSlot K)) (got : Result A ContAnswer) (new : List (ContSlot K)) (line : Line)
      → IsReadAt tells holds faults calls (lock device place) link device place reading event old got new line
      → ReadsAtLock tells holds faults lock link device place reading event old got new line

module _ {K : Type 0} (tells : K → Bool) (holds : K → Place → Option Tables) (faults : K → ℕ) where
  -- the locks of a device, lifted and set down over the keepers that were given, are those of a device that was restarted
  abbrev pub LiftingRestarts : Type 0
  LiftingRestarts = (lock : ℕ → Place → ℕ) (device first past : ℕ) (old mid new : List (ContSlot K)) (given : List K) → HasLocks lock device first past
      → Lifts tells first past old mid given → AreSetDown first given mid new
      → HalfRestarts lock true device (half_of tells holds faults lock old) (half_of tells holds faults lock new)
