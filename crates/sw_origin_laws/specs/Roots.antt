-- Of which container a place is a shard, and what is asked of clients so that the rows of a shard are those of its container. (This project's own.)
use Rattle.std.specs.Prelude.{◌≡◌, ⊤, true, false, List, [], ◌∷◌, ◌++◌, ◌⊎◌}
use Rattle.std.specs.List.{All}
use Rattle.sw_container_steps.specs.declared.cont_change.ContChange.{ContChange}
use Rattle.sw_container_steps.specs.declared.cont_change.ContChange.TheVariants.{MergeRow, MergeRows, SetRanges}
use Rattle.sw_hashpath.specs.declared.place.Place.{Place}
use Rattle.sw_listing_laws.specs.Plain.{Cluster, IsOfWrite, RunsSoundly}
use Rattle.sw_machine.specs.Machine.{Came, Machine, RunLine, Runs, Went}
use Rattle.sw_machine.specs.Messages.{Message, Update_of}
use Rattle.sw_peer.specs.declared.cont_event.ContEvent.TheVariants as cont_events
use Rattle.sw_peer.specs.declared.line.Event.{Event}
use Rattle.sw_peer.specs.declared.line.Event.TheVariants.{AtContainer}
use Rattle.sw_peer.specs.declared.link.Link.TheVariants.{Local}
use Rattle.sw_rows.specs.declared.row.Row.{Row}
use Rattle.sw_shard_range.specs.Names.{is_hidden}

-- of which container each place is a shard; a container that isn't hidden is its own
pub record AreRoots (root : Place → Place) : Type 0 where
  pub own : (place : Place) → is_hidden place ≡ false → root place ≡ place

module _ (c : Cluster) (root : Place → Place) where
  -- the row is that of a put or deletion that reached some device, of an object of the container that the place is a shard of. Where that is hidden nothing is
  -- asked
  abbrev pub IsRootedRow : Machine → Place → Row → Type 0
  IsRootedRow m place row = (is_hidden (root place) ≡ true) ⊎ IsOfWrite c m (root place) row

  -- a client brings such rows; and a list that is set for a container names shards of it
  abbrev pub IsRootedChange : Machine → Place → ContChange → Type 0
  IsRootedChange m place (MergeRow row) = IsRootedRow m place row
  IsRootedChange m place (MergeRows rows) = All (IsRootedRow m place) rows
  IsRootedChange m place (SetRanges ranges) = All (λ range. root range.shard ≡ place) ranges
  IsRootedChange m place change = ⊤

  abbrev pub IsRootedEvent : Machine → Event → Type 0
  IsRootedEvent m (AtContainer (cont_events.Changed place change answer) entries) = IsRootedChange m place change
  IsRootedEvent m event = ⊤

  -- no update is for an object of a shard itself: each is of a container that is its own root, or of one of whose root nothing is asked
  abbrev pub IsRootedMessage : Message → Type 0
  IsRootedMessage (Update_of to filed place at row) = (is_hidden (root place) ≡ true) ⊎ (root place ≡ place)
  IsRootedMessage message = ⊤

  -- what comes in a message is another device's
  abbrev pub IsRootedLine : Machine → RunLine → Type 0
  IsRootedLine m (Came line) = line.link ≡ Local → IsRootedEvent m line.event
  IsRootedLine m (Went from message) = IsRootedMessage message

  -- each line of a run, over the machine as the lines before it left it
  abbrev pub AreRooted : (m : Machine) (lines : List RunLine) (after : Machine) → Runs c.nodes m lines after → Type 0
  AreRooted m [] after run = ⊤
  AreRooted m (line ∷ lines) after run = IsRootedLine m line × AreRooted run.0 lines after run.2

-- the steps of a run in which all keep to their parts
abbrev pub runs_of : (c : Cluster) (done : List RunLine) (m : Machine) (lines : List RunLine) (after : Machine) → RunsSoundly c done m lines after
    → Runs c.nodes m lines after
runs_of c done m [] after run = run
runs_of c done m (line ∷ lines) after run = (run.0, run.1, runs_of c (done ++ line ∷ []) run.0 lines after run.5)
