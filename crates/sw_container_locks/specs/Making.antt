-- A step at one container lock, with its line. (This project's own.)
use Rattle.std.specs.Prelude.{◌≡◌, ℕ, true, Bool, List, [], Option, Result, Some, slice_set}
use Rattle.std.specs.List.{slice_get}
use Rattle.sw_container_db.specs.Calling.{Called, OfNone, ReadCalled, ReadWants, StepWants}
use Rattle.sw_container_db.specs.ContDirs.{ContKept}
use Rattle.sw_container_db.specs.Stepping.{IsReadStep, IsStep}
use Rattle.sw_container_steps.specs.Presence.{is_present}
use Rattle.sw_container_steps.specs.Reads.{HasClosed, HasRangeRows, HasRowsFor, HasSharding}
use Rattle.sw_container_steps.specs.Rules.{cont_rules}
use Rattle.sw_container_steps.specs.declared.cont_answer.ContAnswer.{ContAnswer}
use Rattle.sw_container_steps.specs.declared.cont_change.ContChange.{ContChange}
use Rattle.sw_container_steps.specs.declared.cont_entry.ContEntry.{ContEntry}
use Rattle.sw_hashpath.specs.declared.place.Place.{Place}
use Rattle.sw_peer.specs.declared.cont_event.ContEvent.{ContEvent}
use Rattle.sw_peer.specs.declared.cont_event.ContEvent.TheVariants.{Changed, Timed, Informed, Listed, Parceled, Sharded, Cleft}
use Rattle.sw_peer.specs.declared.line.Event.TheVariants.{AtContainer}
use Rattle.sw_peer.specs.declared.line.Line.{Line}
use Rattle.sw_peer.specs.declared.link.Link.{Link}
use Rattle.sw_keeper.specs.declared.tables.Tables.{Tables}
use Rattle.sw_step.specs.Steps.{added_by}
use Rattle.sw_container_locks.specs.Slots.{IsLock}
use Rattle.sw_container_locks.specs.declared.cont_slot.ContSlot.{ContSlot}
use Rattle.sw_container_locks.specs.declared.cont_slot.ContSlot.TheVariants as slots

-- the line of a step that entered these
abbrev pub line_of : Link → ℕ → ContEvent → List ContEntry → Line
line_of link device event entered = record { device = device; link = link; event = AtContainer event entered; added = [] }

-- the same lock, when what was entered has been taken out
abbrev pub taken : {K : Type 0} → ContKept K → ContKept K
taken k = record k { fresh = [] }

-- over which tables a read takes memory once they were read, by how a line tells of it: a listing, and how it is split, where the container is there, and
-- rows to be sent where there are any
abbrev pub read_takes : ContEvent → Option Tables → Type 0
read_takes (Changed place change answer) = OfNone
read_takes (Timed place got) = OfNone
read_takes (Informed place got) = HasClosed
read_takes (Listed place query got) = λ read. is_present read ≡ true
read_takes (Parceled place device got) = HasRowsFor device
read_takes (Sharded place got) = HasSharding
read_takes (Cleft place range above got) = HasRangeRows range above

module _ {K : Type 0} (tells : K → Bool) (holds : K → Place → Option Tables) (faults calls : K → ℕ) where
  -- a step that may change the container, at its lock. What it entered is in the line alone
  pub record IsChangedIn (k : ContKept K) (link : Link) (device : ℕ) (place : Place) (change : ContChange) (answer : ContAnswer) (n : ContKept K) (line : Line)
      : Type 0 where
    pub left : ContKept K  -- as the step left the lock
    pub step : IsStep tells holds faults k place change answer left
    pub called : Called tells holds faults calls k place change answer left
    pub wanted : StepWants tells holds faults calls k place change answer left
    pub after : n ≡ taken left
    pub line_is : line ≡ line_of link device (Changed place change answer) (added_by cont_rules step.made)

  -- a read, and how a line tells of it
  pub record IsReadIn {A : Type 0} (k : ContKept K) (link : Link) (device : ℕ) (place : Place) (reading : Option Tables → ℕ → Result A ContAnswer)
      (event : Result A ContAnswer → ContEvent) (got : Result A ContAnswer) (n : ContKept K) (line : Line) : Type 0 where
    pub left : ContKept K
    pub step : IsReadStep tells holds faults k place reading got left
    pub called : ReadCalled tells holds faults calls k place got left
    pub wanted : ReadWants tells holds faults calls (read_takes (event got)) k place got left
    pub after : n ≡ taken left
    pub line_is : line ≡ line_of link device (event got) step.read.follows.entries.0

  -- a step at this one of all locks; every other one is as it was
  pub record IsChangedAt (l : ℕ) (link : Link) (device : ℕ) (place : Place) (change : ContChange) (old : List (ContSlot K)) (answer : ContAnswer)
      (new : List (ContSlot K)) (line : Line) : Type 0 where
    pub before : ContKept K
    pub after : ContKept K
    pub there : slice_get old l ≡ Some (slots.Open before)
    pub is_lock : IsLock tells before
    pub made : IsChangedIn before link device place change answer after line
    pub rest : new ≡ slice_set old l (slots.Open after)

  -- a read at it
  pub record IsReadAt {A : Type 0} (l : ℕ) (link : Link) (device : ℕ) (place : Place) (reading : Option Tables → ℕ → Result A ContAnswer)
      (event : Result A ContAnswer → ContEvent) (old : List (ContSlot K)) (got : Result A ContAnswer) (new : List (ContSlot K)) (line : Line) : Type 0 where
    pub before : ContKept K
    pub after : ContKept K
    pub there : slice_get old l ≡ Some (slots.Open before)
    pub is_lock : IsLock tells before
    pub read : IsReadIn before link device place reading event got after line
    pub rest : new ≡ slice_set old l (slots.Open after)
