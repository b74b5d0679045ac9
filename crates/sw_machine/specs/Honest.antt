-- Runs in which nodes keep to their parts. A device marks in a record whom it heard, and drops it when all are marked; it keeps that another device has rows
-- only where that one acknowledged each of them; it sets shard ranges only once their shards are made, and closes one only by all devices of its shard; and it
-- sends to a shard only rows that a replica has left to it, or owes to it. (This project's own.)
use Rattle.std.specs.Prelude.{◌≡◌, ⊤, ℕ, ◌≤◌, Bool, true, false, List, ◌∷◌, ◌++◌, [], unwrap_or, Contains, Some, ◌⊎◌, Ok}
use Rattle.std.specs.List.{All, slice_get}
use Rattle.sw_container_steps.specs.Rules.{cont_ending}
use Rattle.sw_container_steps.specs.declared.cont_answer.ContAnswer.{ContAnswer}
use Rattle.sw_container_steps.specs.declared.cont_answer.ContAnswer.TheVariants.{Redirect}
use Rattle.sw_container_steps.specs.declared.cont_change.ContChange.{ContChange}
use Rattle.sw_container_steps.specs.declared.cont_change.ContChange.TheVariants.{Ack, CloseRange, Create, MergeRow, MergeRows, SetRanges, SetSync}
use Rattle.sw_container_steps.specs.declared.cont_entry.ContEntry.{ContEntry}
use Rattle.sw_container_steps.specs.declared.sharding.Sharding.{Sharding}
use Rattle.sw_container_steps.specs.declared.syncing.Parcel.{Parcel}
use Rattle.sw_hashpath.specs.Places.{IsPlaceOf}
use Rattle.sw_hashpath.specs.declared.place.Place.{Place}
use Rattle.sw_hashpath.specs.declared.secrets.Secrets.{Secrets}
use Rattle.sw_object_steps.specs.declared.change.Change.{Change}
use Rattle.sw_object_steps.specs.declared.change.Change.TheVariants.{DropRecord, MarkRecord}
use Rattle.sw_peer.specs.Sights.{Sight}
use Rattle.sw_peer.specs.declared.cont_event.ContEvent.TheVariants as cont_events
use Rattle.sw_peer.specs.declared.line.Event.{Event}
use Rattle.sw_peer.specs.declared.line.Event.TheVariants.{AtContainer, Changed}
use Rattle.sw_peer.specs.declared.line.Line.{Line}
use Rattle.sw_peer.specs.declared.link.Link.{Link}
use Rattle.sw_peer.specs.declared.link.Link.TheVariants.{Local}
use Rattle.sw_pending.specs.Records.{key_of}
use Rattle.sw_pending.specs.declared.filed.Filed.{Filed}
use Rattle.sw_pending.specs.declared.key.RecordKey.{RecordKey}
use Rattle.sw_rows.specs.declared.row.Row.{Row}
use Rattle.sw_shard_range.specs.Laws.{AreTiled}
use Rattle.sw_shard_range.specs.Names.{is_hidden}
use Rattle.sw_shard_range.specs.declared.range.Range.{Range}
use Rattle.sw_step.specs.Rules.{has_made}
use Rattle.sw_sync.specs.Points.{point_at}
use Rattle.sw_machine.specs.Doors.{GoesOn, StandsFor}
use Rattle.sw_machine.specs.Machine.{Came, Machine, RunLine, Went}
use Rattle.sw_machine.specs.Messages.{Message, Row_of, Rows_of, Update_of}

-- ---- what lines tell

-- this came to the device, and was answered there
pub record CameTo (lines : List RunLine) (device : ℕ) (place : Place) (change : ContChange) (answer : ContAnswer) : Type 0 where
  pub came : Line
  pub entries : List ContEntry
  pub among : Contains lines (Came came)
  pub device_is : came.device ≡ device
  pub event_is : came.event ≡ AtContainer (cont_events.Changed place change answer) entries

-- the container took it: it was made, or had nothing to change
abbrev pub WasTaken : List RunLine → ℕ → Place → ContChange → Type 0
WasTaken lines device place change = (answer : ContAnswer) × CameTo lines device place change answer × (has_made (cont_ending answer) ≡ true)

-- the container left the name of the row to this shard
abbrev pub WasLeft : List RunLine → ℕ → Place → Row → Place → Type 0
WasLeft lines device place row shard = CameTo lines device place (MergeRow row) (Redirect shard)

-- the container told that the range with this index is this one
pub record ToldRange (lines : List RunLine) (device : ℕ) (place : Place) (sharding : Sharding) (index : ℕ) (range : Range) : Type 0 where
  pub came : Line
  pub entries : List ContEntry
  pub among : Contains lines (Came came)
  pub device_is : came.device ≡ device
  pub event_is : came.event ≡ AtContainer (cont_events.Sharded place (Ok sharding)) entries
  pub ranges : List Range
  pub split : sharding.ranges ≡ Some ranges
  pub is_there : slice_get ranges index ≡ Some range

module _ (secrets : Secrets) (replicas : Place → List ℕ) where
  -- each replica of a container took it
  abbrev pub AllTook : List RunLine → Place → ContChange → Type 0
  AllTook lines place change = (r : ℕ) → Contains (replicas place) r → WasTaken lines r place change

  -- the row counts as acknowledged by the device: it took it, or left it to a shard each replica of which took it
  abbrev pub IsAcknowledged : List RunLine → ℕ → Place → Row → Type 0
  IsAcknowledged lines device place row =
      WasTaken lines device place (MergeRow row)
      ⊎ ((shard : Place) × WasLeft lines device place row shard × AllTook lines shard (MergeRow row))

  -- ---- marks

  -- the device sent a row for this record to another one, and behind that the row counts as acknowledged by it
  pub record WasTold (lines : List RunLine) (device : ℕ) (key : RecordKey) (to : ℕ) : Type 0 where
    pub filed : Filed
    pub place : Place
    pub row : Row
    pub before : List RunLine
    pub behind : List RunLine
    pub key_is : key_of filed ≡ key
    pub lines_are : lines ≡ before ++ Went device (Update_of to filed place place row) ∷ behind
    pub acknowledged : IsAcknowledged behind to place row

  -- ---- points

  -- The device read the rows of a range above the point that it kept for a device of the shard, or below that, and the device of the shard took them
  pub record WasOffered (lines : List RunLine) (device : ℕ) (place : Place) (index to rowid : ℕ) : Type 0 where
    pub sharding : Sharding
    pub range : Range
    pub parcel : Parcel
    pub above : ℕ
    pub before : List RunLine
    pub came : Line
    pub entries : List ContEntry
    pub behind : List RunLine
    pub lines_are : lines ≡ before ++ Came came ∷ behind
    pub told : ToldRange before device place sharding index range
    pub above_is : above ≤ unwrap_or (point_at sharding.points index to) 0
    pub device_is : came.device ≡ device
    pub event_is : came.event ≡ AtContainer (cont_events.Cleft place index above (Ok parcel)) entries
    pub rowid_is : rowid ≡ parcel.top
    pub taken : WasTaken behind to range.shard (MergeRows parcel.rows)

  -- The device read the rows above the sync point that it keeps for another replica, and each of them counts as acknowledged by that one
  pub record WasPushed (lines : List RunLine) (device : ℕ) (place : Place) (to rowid : ℕ) : Type 0 where
    pub parcel : Parcel
    pub before : List RunLine
    pub came : Line
    pub entries : List ContEntry
    pub behind : List RunLine
    pub lines_are : lines ≡ before ++ Came came ∷ behind
    pub device_is : came.device ≡ device
    pub event_is : came.event ≡ AtContainer (cont_events.Parceled place to (Ok parcel)) entries
    pub rowid_is : rowid ≡ parcel.top
    pub acknowledged : All (IsAcknowledged behind to place) parcel.rows

  -- ---- ranges

  -- they are all names, each once, of a container that isn't hidden itself, and each replica of each shard was created
  pub record AreMade (lines : List RunLine) (place : Place) (ranges : List Range) : Type 0 where
    pub plain : is_hidden place ≡ false
    pub tiled : AreTiled ranges
    pub made : All (λ range. (r : ℕ) → Contains (replicas range.shard) r → (time : ℕ) × WasTaken lines r range.shard (Create time)) ranges

  -- all devices of the range's shard are among these
  pub record AreAllOf (lines : List RunLine) (device : ℕ) (place : Place) (index : ℕ) (devices : List ℕ) : Type 0 where
    pub sharding : Sharding
    pub range : Range
    pub told : ToldRange lines device place sharding index range
    pub all : (r : ℕ) → Contains (replicas range.shard) r → Contains devices r

  -- ---- steps behind these lines

  -- at an object, where these devices keep each container
  abbrev pub IsHonestStep : List RunLine → ℕ → Change → Type 0
  IsHonestStep lines device (MarkRecord filed to) = WasTold lines device (key_of filed) to
  IsHonestStep lines device (DropRecord filed all) =
      (place : Place) → IsPlaceOf secrets filed.name place → (r : ℕ) → Contains (replicas place) r → Contains all r
  IsHonestStep lines device change = ⊤

  -- at a container
  abbrev pub IsHonestChange : List RunLine → ℕ → Place → ContChange → Type 0
  IsHonestChange lines device place (SetRanges ranges) = AreMade lines place ranges
  IsHonestChange lines device place (Ack range to rowid) = WasOffered lines device place range to rowid
  IsHonestChange lines device place (CloseRange range devices) = AreAllOf lines device place range devices
  IsHonestChange lines device place (SetSync to rowid) = WasPushed lines device place to rowid
  IsHonestChange lines device place change = ⊤

  -- what comes in a message is its sender's
  abbrev pub IsHonestEvent : List RunLine → Link → ℕ → Event → Type 0
  IsHonestEvent lines link device (Changed name change answer) = IsHonestStep lines device change
  IsHonestEvent lines link device (AtContainer (cont_events.Changed place change answer) entries) = link ≡ Local → IsHonestChange lines device place change
  IsHonestEvent lines link device event = ⊤

  -- ---- messages

  -- a row goes to its own container, or to a shard that some replica left it to; the rows of a range to its shard
  abbrev pub IsHonestMessage : List RunLine → ℕ → Message → Type 0
  IsHonestMessage lines from (Row_of to place at row) = (at ≡ place) ⊎ ((d : ℕ) × WasLeft lines d place row at)
  IsHonestMessage lines from (Update_of to filed place at row) = (at ≡ place) ⊎ ((d : ℕ) × WasLeft lines d place row at)
  IsHonestMessage lines from (Rows_of to place at rows) =
      (at ≡ place) ⊎ ((sharding : Sharding) × (index : ℕ) × (range : Range) × ToldRange lines from place sharding index range × (range.shard ≡ at))
  IsHonestMessage lines from message = ⊤

  abbrev pub IsHonest : List RunLine → RunLine → Type 0
  IsHonest lines (Came line) = IsHonestEvent lines line.link line.device line.event
  IsHonest lines (Went from message) = IsHonestMessage lines from message

  -- each line behind those in front of it
  abbrev pub AreHonest : List RunLine → List RunLine → Type 0
  AreHonest done [] = ⊤
  AreHonest done (line ∷ lines) = IsHonest done line × AreHonest (done ++ line ∷ []) lines

  -- every machine for which a door stood goes on to it as it is then, honestly, whatever was done before
  abbrev pub RunsHonestly : Sight → Sight → Type 0
  RunsHonestly s t = (m : Machine) → StandsFor s m → (lines : List RunLine) × ((done : List RunLine) → AreHonest done lines) × GoesOn s m lines t
