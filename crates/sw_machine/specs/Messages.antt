-- Messages on their way to a device, and the step that the coming of one is. (This project's own; that a write is sent as its file, and rows as they are, is
-- OpenStack Swift's.)
use Rattle.std.specs.Prelude.{◌≡◌, ⊤, ℕ, List, Contains}
use Rattle.sw_container_steps.specs.declared.cont_change.ContChange.TheVariants.{Create, MergeRow, MergeRows, SetRanges}
use Rattle.sw_hashpath.specs.declared.name.Name.{Name}
use Rattle.sw_hashpath.specs.declared.place.Place.{Place}
use Rattle.sw_object_steps.specs.declared.change.Change.TheVariants.{Receive}
use Rattle.sw_peer.specs.declared.cont_event.ContEvent.TheVariants as cont_events
use Rattle.sw_peer.specs.declared.line.Event.{Event}
use Rattle.sw_peer.specs.declared.line.Event.TheVariants.{AtContainer, Changed}
use Rattle.sw_peer.specs.declared.line.Line.{Line}
use Rattle.sw_peer.specs.declared.link.Link.TheVariants.{Sent}
use Rattle.sw_pending.specs.declared.filed.Filed.{Filed}
use Rattle.sw_rows.specs.declared.row.Row.{Row}
use Rattle.sw_shard_range.specs.declared.range.Range.{Range}
use Rattle.sw_state.specs.declared.write.Write.{Write}

pub data Message : Type 0 where
  Write_of : (to : ℕ) (name : Name) (write : Write) → Message
  Row_of : (to : ℕ) (place at : Place) (row : Row) → Message  -- of the first container, to the second: itself, or a shard
  Rows_of : (to : ℕ) (place at : Place) (rows : List Row) → Message  -- so do these
  Update_of : (to : ℕ) (filed : Filed) (place at : Place) (row : Row) → Message  -- the row that this record is for, of its container, to that or a shard
  Creation_of : (to : ℕ) (place : Place) (time : ℕ) → Message  -- of a container
  Ranges_of : (to : ℕ) (place : Place) (ranges : List Range) → Message  -- the shard ranges of a container

-- it comes to this device as this step
abbrev pub Arrives : Message → ℕ → Event → Type 0
Arrives (Write_of to name write) device (Changed n change answer) = (to ≡ device) × (n ≡ name) × (change ≡ Receive write)
Arrives (Row_of to place at row) device (AtContainer (cont_events.Changed p change answer) entries) = (to ≡ device) × (p ≡ at) × (change ≡ MergeRow row)
Arrives (Rows_of to place at rows) device (AtContainer (cont_events.Changed p change answer) entries) = (to ≡ device) × (p ≡ at) × (change ≡ MergeRows rows)
Arrives (Update_of to filed place at row) device (AtContainer (cont_events.Changed p change answer) entries) =
    (to ≡ device) × (p ≡ at) × (change ≡ MergeRow row)
Arrives (Creation_of to place time) device (AtContainer (cont_events.Changed p change answer) entries) = (to ≡ device) × (p ≡ place) × (change ≡ Create time)
Arrives (Ranges_of to place ranges) device (AtContainer (cont_events.Changed p change answer) entries) =
    (to ≡ device) × (p ≡ place) × (change ≡ SetRanges ranges)
Arrives message device event = ⊥

-- it may change something
abbrev pub MayChange : Event → Type 0
MayChange (Changed name change answer) = ⊤
MayChange (AtContainer (cont_events.Changed place change answer) entries) = ⊤
MayChange event = ⊥

-- What was sent is on its way for good: each step from then on may be its coming, again and again. No other changing step comes in a message: points are
-- raised, ranges closed and rows taken away at the device itself
abbrev pub WasSent : List Message → Line → Type 0
WasSent sent line =
    line.link ≡ Sent → MayChange line.event → (message : Message) × Contains sent message × Arrives message line.device line.event
