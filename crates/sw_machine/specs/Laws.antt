-- What is promised of runs: of each device and key by itself, with calls that fail, there or elsewhere, full journals, restarts, and messages that are lost
-- or come again. (This project's own.)
use Rattle.std.specs.Prelude.{◌≡◌, ℕ, true, false, List, [], ◌∷◌, ◌++◌, fold, Contains, Option, Some, ◌⊎◌}
use Rattle.sw_container_steps.specs.Entries.{rows_of}
use Rattle.sw_container_steps.specs.Rules.{cont_rules}
use Rattle.sw_hashpath.specs.declared.place.Place.{Place}
use Rattle.sw_keeper.specs.declared.tables.Tables.{Tables}
use Rattle.sw_object_steps.specs.Journals.{Hash}
use Rattle.sw_object_steps.specs.Rules.{obj_rules}
use Rattle.sw_peer.specs.Sights.{Nodes, cont_lock}
use Rattle.sw_peer.specs.declared.line.Line.{Line}
use Rattle.sw_rows.specs.Rows.{find_named, is_at_least, merged}
use Rattle.sw_rows.specs.declared.row.Row.{Row}
use Rattle.sw_state.specs.States.{joined, state_of, writes_of}
use Rattle.sw_step.specs.Rules.{doubts_about, stands}
use Rattle.sw_machine.specs.Machine.{Came, KnownRow, KnownWrite, Machine, RunLine, Runs, is_emptied, rows_among, went_in, writes_among}
use Rattle.sw_machine.specs.Messages.{WasSent}
use Rattle.sw_machine.specs.Sides.{CanStandAt, TellsAt}

-- ---- objects

-- from one machine to a later one these writes became known: the lock of the hash tells its contents, and the device stands for what it stood for, joined
-- with those that reached it under the hash, one by one; so for the state of all of them
pub record HashStands (nodes : Nodes) (m after : Machine) (more : List (ℕ × KnownWrite)) (device : ℕ) (hash : Hash) : Type 0 where
  pub told : TellsAt nodes.lock after.objects device hash
  pub joins : (after.objects.half.holds device hash).state
      ≡ fold joined (m.objects.half.holds device hash).state (writes_among more device hash)
  pub stands : (after.objects.half.holds device hash).state
      ≡ state_of (writes_of (m.objects.half.holds device hash).state ++ writes_among more device hash)

-- after a run some more writes are known, and each hash whose lock told its contents stands for them too
pub record HashesGoOn (nodes : Nodes) (m after : Machine) : Type 0 where
  pub more : List (ℕ × KnownWrite)
  pub known : after.objects.known ≡ m.objects.known ++ more
  pub hash : (device : ℕ) (hash : Hash) → TellsAt nodes.lock m.objects device hash → HashStands nodes m after more device hash

abbrev pub HashesStand : Type 0
HashesStand = (nodes : Nodes) (m : Machine) (lines : List RunLine) (after : Machine) → Runs nodes m lines after → HashesGoOn nodes m after

-- ---- containers

-- The rows of a container that weren't taken away are those that it had, with those that reached it merged one by one, in their order, and no others. What was
-- taken away stays so
pub record PlaceStands (nodes : Nodes) (m after : Machine) (more : List (ℕ × KnownRow)) (device : ℕ) (place : Place) : Type 0 where
  pub told : TellsAt (cont_lock nodes) after.containers device place
  pub merges : is_emptied (after.containers.half.holds device place) ≡ false
      → rows_of (after.containers.half.holds device place) ≡ fold merged (rows_of (m.containers.half.holds device place)) (rows_among more device place)
  pub emptied : is_emptied (m.containers.half.holds device place) ≡ true → is_emptied (after.containers.half.holds device place) ≡ true

pub record PlacesGoOn (nodes : Nodes) (m after : Machine) : Type 0 where
  pub more : List (ℕ × KnownRow)
  pub known : after.containers.known ≡ m.containers.known ++ more
  pub place : (device : ℕ) (place : Place) → TellsAt (cont_lock nodes) m.containers device place → PlaceStands nodes m after more device place

abbrev pub RowsAreMerged : Type 0
RowsAreMerged = (nodes : Nodes) (m : Machine) (lines : List RunLine) (after : Machine) → Runs nodes m lines after → PlacesGoOn nodes m after

-- the row of a name
abbrev pub row_named : List ℕ → Option Tables → Option Row
row_named name t = find_named (rows_of t).list name

-- a row is there, and counts at least as much as this one
abbrev pub StandsAtLeast : Option Row → Row → Type 0
StandsAtLeast o row = (top : Row) × (o ≡ Some top) × (is_at_least top row ≡ true)

-- The row that a name has, of the one that it had before and those of some rows that have the name: it is one of these, and counts at least as much as each.
-- There is none where there is none of these
pub record IsGreatest (name : List ℕ) (before : Option Row) (rows : List Row) (after : Option Row) : Type 0 where
  pub stood : (row : Row) → before ≡ Some row → StandsAtLeast after row
  pub reached : (row : Row) → Contains rows row → row.name ≡ name → StandsAtLeast after row
  pub one : (after ≡ before) ⊎ ((row : Row) × Contains rows row × (row.name ≡ name) × (after ≡ Some row))

-- so where they weren't taken away each name has the greatest of the row that it had and those that reached the container in the run
abbrev pub RunKeepsTheGreatest : Type 0
RunKeepsTheGreatest = (nodes : Nodes) (m : Machine) (lines : List RunLine) (after : Machine) (run : Runs nodes m lines after) (more : List (ℕ × KnownRow))
    → after.containers.known ≡ m.containers.known ++ more → (device : ℕ) (place : Place) → TellsAt (cont_lock nodes) m.containers device place
    → is_emptied (after.containers.half.holds device place) ≡ false → (name : List ℕ)
    → IsGreatest name (row_named name (m.containers.half.holds device place)) (rows_among more device place)
    (row_named name (after.containers.half.holds device place))

-- ---- what the journals tell

-- a lock is one of one device
abbrev pub LocksAreApart : Nodes → Type 0
LocksAreApart nodes = (d e part other : ℕ) → nodes.part_lock d part ≡ nodes.part_lock e other → d ≡ e

-- where a device held under a hash what its lock's entries told, with those of its doubts that were made, it does so after a run
abbrev pub HashesMayStand : Type 0
HashesMayStand = (nodes : Nodes) (m : Machine) (lines : List RunLine) (after : Machine) → LocksAreApart nodes → Runs nodes m lines after
    → (device : ℕ) (hash : Hash) → TellsAt nodes.lock m.objects device hash → CanStandAt obj_rules nodes.lock m.objects device hash
    → CanStandAt obj_rules nodes.lock after.objects device hash

-- the same of containers
abbrev pub PlacesMayStand : Type 0
PlacesMayStand = (nodes : Nodes) (m : Machine) (lines : List RunLine) (after : Machine) → LocksAreApart nodes → Runs nodes m lines after
    → (device : ℕ) (place : Place) → TellsAt (cont_lock nodes) m.containers device place
    → CanStandAt cont_rules (cont_lock nodes) m.containers device place → CanStandAt cont_rules (cont_lock nodes) after.containers device place

-- so where no doubt of it is left, it stands for what the entries tell
abbrev pub HashesAreTold : Type 0
HashesAreTold = (nodes : Nodes) (m : Machine) (device : ℕ) (hash : Hash) → CanStandAt obj_rules nodes.lock m.objects device hash
    → doubts_about obj_rules hash (m.objects.half.seen (nodes.lock device hash)).journal.doubts ≡ []
    → m.objects.half.holds device hash ≡ stands obj_rules (m.objects.half.seen (nodes.lock device hash)) hash

abbrev pub PlacesAreTold : Type 0
PlacesAreTold = (nodes : Nodes) (m : Machine) (device : ℕ) (place : Place) → CanStandAt cont_rules (cont_lock nodes) m.containers device place
    → doubts_about cont_rules place (m.containers.half.seen (cont_lock nodes device place)).journal.doubts ≡ []
    → m.containers.half.holds device place ≡ stands cont_rules (m.containers.half.seen (cont_lock nodes device place)) place

-- ---- messages

-- what came in a message had been sent: before the run, or in it before it came
abbrev pub MessagesWereSent : Type 0
MessagesWereSent = (nodes : Nodes) (m : Machine) (lines : List RunLine) (line : Line) (more : List RunLine) (after : Machine)
    → Runs nodes m (lines ++ Came line ∷ more) after → WasSent (m.sent ++ went_in lines) line

-- what was sent after a run had been sent before it, or was in it
abbrev pub RunSends : Type 0
RunSends = (nodes : Nodes) (m : Machine) (lines : List RunLine) (after : Machine) → Runs nodes m lines after → after.sent ≡ m.sent ++ went_in lines

-- two runs, one after the other, are one
abbrev pub RunsJoin : Type 0
RunsJoin = (nodes : Nodes) (m : Machine) (lines : List RunLine) (mid : Machine) (more : List RunLine) (after : Machine) → Runs nodes m lines mid
    → Runs nodes mid more after → Runs nodes m (lines ++ more) after
