-- The machine: all nodes, with objects and containers, step by step; what became known at each device, and the messages that were ever sent. (This
-- project's own; the answers are those of OpenStack Swift's object and container servers, as `sw_object_steps` and `sw_container_steps` have them.)
use Rattle.std.specs.Prelude.{◌≡◌, ◌≢◌, ⊤, ℕ, ◌≤◌, Bool, true, false, List, [], ◌∷◌, ◌++◌, map, Contains, Option, None, Some, Result, Err}
use Rattle.std.specs.Prelude.{if◌then◌else◌}
use Rattle.std.specs.List.{All}
use Rattle.std.specs.Str.{bytes_eq}
use Rattle.std.specs.declared.alloc.Global.{Global}
use Rattle.std.specs.declared.vec.Vec.{Vec}
use Rattle.sw_container_steps.specs.Entries.{is_same_place, rows_of}
use Rattle.sw_container_steps.specs.Reads.{info_of, listing_of, parcel_of, range_parcel_of, sharding_of, times_of}
use Rattle.sw_container_steps.specs.Rules.{cont_ending, cont_look, cont_rules}
use Rattle.sw_container_steps.specs.declared.cont_answer.ContAnswer.{ContAnswer}
use Rattle.sw_container_steps.specs.declared.cont_change.ContChange.{ContChange}
use Rattle.sw_container_steps.specs.declared.cont_change.ContChange.TheVariants.{Create, Remove, MergeRow, MergeRows, SetRanges, Ack, CloseRange}
use Rattle.sw_container_steps.specs.declared.cont_change.ContChange.TheVariants.{EmptyOut, SetSync}
use Rattle.sw_container_steps.specs.declared.cont_entry.ContEntry.{ContEntry}
use Rattle.sw_hashpath.specs.HashParts.{partition_of}
use Rattle.sw_hashpath.specs.Places.{IsPlaceOf}
use Rattle.sw_hashpath.specs.declared.decode_error.BadFile.{BadFile}
use Rattle.sw_hashpath.specs.declared.name.Name.{Name}
use Rattle.sw_hashpath.specs.declared.place.Place.{Place}
use Rattle.sw_keeper.specs.declared.tables.Tables.{Tables}
use Rattle.sw_object_steps.specs.BaseRows.{IsBaseFor}
use Rattle.sw_object_steps.specs.Filings.{AreFiled}
use Rattle.sw_object_steps.specs.Histories.{IsGiven, IsRecorded, got_look, part_look}
use Rattle.sw_object_steps.specs.Journals.{Hash, Shows}
use Rattle.sw_object_steps.specs.Parts.{AreHashes, AreLines, IsFile}
use Rattle.sw_object_steps.specs.Recorded.{doubts_records, doubts_write}
use Rattle.sw_object_steps.specs.Rules.{Writes, obj_rules}
use Rattle.sw_object_steps.specs.Values.{ObjValue}
use Rattle.sw_object_steps.specs.declared.answer.Answer.{Answer}
use Rattle.sw_object_steps.specs.declared.change.Change.{Change}
use Rattle.sw_object_steps.specs.declared.dir_fault.DirFault.{DirFault}
use Rattle.sw_object_steps.specs.declared.dir_fault.DirFault.TheVariants.{Damaged}
use Rattle.sw_object_steps.specs.declared.entry.ObjEntry.{ObjEntry}
use Rattle.sw_object_steps.specs.declared.entry.ObjEntry.TheVariants as entries
use Rattle.sw_object_steps.specs.declared.got.Got.{Got}
use Rattle.sw_outside.specs.Faults.{HasRisen}
use Rattle.sw_peer.specs.Sights.{Nodes, Sight, cont_lock, in_part, in_stripe, in_suffix, is_one}
use Rattle.sw_peer.specs.declared.cont_event.ContEvent.{ContEvent}
use Rattle.sw_peer.specs.declared.cont_event.ContEvent.TheVariants as cont_events
use Rattle.sw_peer.specs.declared.line.Event.{Event}
use Rattle.sw_peer.specs.declared.line.Event.TheVariants.{AtContainer, Changed, Listed, Read, ReadPart, Restarted}
use Rattle.sw_peer.specs.declared.line.Line.{Line}
use Rattle.sw_peer.specs.declared.part_read.PartRead.{PartRead}
use Rattle.sw_peer.specs.declared.part_read.PartRead.TheVariants.{Base, Files, Hashes, Records, Write as ReadWrite}
use Rattle.sw_pending.specs.declared.filed.Filed.{Filed}
use Rattle.sw_rows.specs.declared.row.Row.{Row}
use Rattle.sw_shard_range.specs.declared.range.Range.{Range}
use Rattle.sw_state.specs.States.{writes_of}
use Rattle.sw_state.specs.declared.state.State.{State}
use Rattle.sw_state.specs.declared.write.Write.{Write}
use Rattle.sw_step.specs.Rules.{has_made}
use Rattle.sw_machine.specs.Messages.{Creation_of, Message, Ranges_of, Row_of, Rows_of, Update_of, WasSent, Write_of}
use Rattle.sw_machine.specs.Sides.{Side, SideMakes, SideReads, SideRestarts, TellsAt, known_at, side_of}

-- ---- what becomes known

-- a write of a name reached a device
pub record KnownWrite : Type 0 where
  pub name : Name
  pub write : Write

-- a row reached a container of a device
pub record KnownRow : Type 0 where
  pub place : Place
  pub row : Row

abbrev pub ObjSide : Type 0
ObjSide = Side Hash ObjValue ObjEntry KnownWrite

abbrev pub ContSide : Type 0
ContSide = Side Place (Option Tables) ContEntry KnownRow

-- the writes that were made of a step. A change of a record is none
abbrev pub made_writes : Name → List ObjEntry → List KnownWrite
made_writes name [] = []
made_writes name (entries.Wrote n write records ∷ made) = record { name = name; write = write } ∷ made_writes name made
made_writes name (entries.Files by filed ∷ made) = made_writes name made
made_writes name (entries.Marked by filed device ∷ made) = made_writes name made
made_writes name (entries.Dropped by filed ∷ made) = made_writes name made

-- the rows that a step merges. Ranges and points are none
abbrev pub rows_in : ContChange → List Row
rows_in (Create time) = []
rows_in (Remove time) = []
rows_in (MergeRow row) = row ∷ []
rows_in (MergeRows rows) = rows
rows_in (SetRanges ranges) = []
rows_in (Ack range device rowid) = []
rows_in (CloseRange range devices) = []
rows_in EmptyOut = []
rows_in (SetSync device rowid) = []

-- whether a step takes the rows of a container away
abbrev pub empties : ContChange → Bool
empties (Create time) = false
empties (Remove time) = false
empties (MergeRow row) = false
empties (MergeRows rows) = false
empties (SetRanges ranges) = false
empties (Ack range device rowid) = false
empties (CloseRange range devices) = false
empties EmptyOut = true
empties (SetSync device rowid) = false

-- whether a step was made: its answer says so, or something was made of it
abbrev pub was_made : ContAnswer → List ContEntry → Bool
was_made answer [] = has_made (cont_ending answer)
was_made answer (e ∷ es) = true

-- the rows of a step that was made, also of those that change nothing
abbrev pub made_rows : Place → ContChange → ContAnswer → List ContEntry → List KnownRow
made_rows place change answer made = map (λ row. record { place = place; row = row }) (if was_made answer made then rows_in change else [])

-- ---- the machine

pub record Machine : Type 0 where
  pub objects : ObjSide
  pub containers : ContSide
  pub sent : List Message  -- all messages that were ever sent

-- the machine in which nothing has happened but what stands at the nodes
abbrev pub machine_of : Sight → Machine
machine_of s = record { objects = side_of s.objects; containers = side_of s.containers; sent = [] }

-- the writes of a hash that are known to have reached a device, in order
abbrev pub writes_among : List (ℕ × KnownWrite) → ℕ → Hash → List Write
writes_among known device hash = known_at bytes_eq (λ n. n.name.hash) (λ n. n.write) device hash known

abbrev pub writes_at : Machine → ℕ → Hash → List Write
writes_at m device hash = writes_among m.objects.known device hash

-- the rows that are known to have reached a container of a device, in order
abbrev pub rows_among : List (ℕ × KnownRow) → ℕ → Place → List Row
rows_among known device place = known_at is_same_place (λ n. n.place) (λ n. n.row) device place known

abbrev pub rows_at : Machine → ℕ → Place → List Row
rows_at m device place = rows_among m.containers.known device place

-- ---- its lines

-- a line of a run: what came to a device, or a message that was sent
pub data RunLine : Type 0 where
  Came : (line : Line) → RunLine
  Went : (from : ℕ) (message : Message) → RunLine

-- the lines of what came
abbrev pub came_in : List RunLine → List Line
came_in [] = []
came_in (Came line ∷ lines) = line ∷ came_in lines
came_in (Went from message ∷ lines) = came_in lines

-- the messages that were sent
abbrev pub went_in : List RunLine → List Message
went_in [] = []
went_in (Came line ∷ lines) = went_in lines
went_in (Went from message ∷ lines) = message ∷ went_in lines

-- ---- what a device may send as things are

-- whether the rows of a container were taken away
abbrev pub is_emptied : Option Tables → Bool
is_emptied None = false
is_emptied (Some t) = t.emptied

-- no row was taken away, and no range is closed, so that no name is left to a shard
abbrev pub IsWhole : Option Tables → Type 0
IsWhole None = ⊤
IsWhole (Some t) = (t.emptied ≡ false) × (t.cursor ≡ 0)

-- it has this list of shard ranges for the container
abbrev pub HasList : Option Tables → List Range → Type 0
HasList None ranges = ⊥
HasList (Some t) ranges = t.ranges ≡ Some ranges

-- it has the row under this place
abbrev pub HasRow : Machine → ℕ → Place → Row → Type 0
HasRow m device place row = Contains (map (λ n. n.row) (rows_of (m.containers.half.holds device place)).list) row

module _ (nodes : Nodes) where
  -- A write that it stands for, rows of a container that it has, the row of what stands under the name of a record, of that name's container, the creation of
  -- a container, and the shard ranges that a container has. Of a lock that doesn't tell its contents nobody knows what it has
  abbrev pub Carries : Machine → ℕ → Message → Type 0
  Carries m from (Write_of to name write) =
      TellsAt nodes.lock m.objects from name.hash → Contains (writes_of (m.objects.half.holds from name.hash).state) write
  Carries m from (Row_of to place at row) = TellsAt (cont_lock nodes) m.containers from place → HasRow m from place row
  Carries m from (Rows_of to place at rows) = TellsAt (cont_lock nodes) m.containers from place → All (λ row. HasRow m from place row) rows
  Carries m from (Update_of to filed place at row) =
      IsPlaceOf nodes.secrets filed.name place
      × (TellsAt nodes.lock m.objects from filed.name.hash → IsBaseFor filed (m.objects.half.holds from filed.name.hash).state (Some row))
  Carries m from (Creation_of to place time) = ⊤
  Carries m from (Ranges_of to place ranges) = TellsAt (cont_lock nodes) m.containers from place → HasList (m.containers.half.holds from place) ranges

  -- ---- what comes to a device at its objects

  -- a step that may change something
  abbrev pub ObjMakes : ObjSide → ℕ → Name → Change → Answer → List ObjEntry → ObjSide → Type 0
  ObjMakes m device name change answer added after =
      SideMakes obj_rules nodes.lock m device name.hash (Writes name change) answer added (made_writes name) after

  -- a read of one name
  abbrev pub ObjReads : ObjSide → ℕ → Name → Got → List ObjEntry → ObjSide → Type 0
  ObjReads m device name got added after =
      SideReads obj_rules nodes.lock m device (nodes.lock device name.hash) (λ key. bytes_eq key name.hash) doubts_write got_look
      (λ read front x. Shows (after.half.seen (nodes.lock device name.hash)).told (read name.hash).state front x) got added after

  module _ {A : Type 0} where
    -- a read of some hashes of a partition. Only a read that `damages` may find a file damaged
    pub record PartReads (m : ObjSide) (device part : ℕ) (at : Nodes → Hash → Bool) (damages : Bool) (reading : Nodes → Bool → (Hash → State) → A → Type 0)
        (got : Result A DirFault) (added : List ObjEntry) (after : ObjSide) : Type 0 where
      pub reads : SideReads obj_rules nodes.lock m device (nodes.part_lock device part) (at nodes) doubts_write part_look
          (λ read front x. IsGiven (reading nodes (after.half.seen (nodes.part_lock device part)).told) read x) got added after
      pub sound : (bad : BadFile) → got ≡ Err (Damaged bad) → damages ≡ true

  -- a read of all records that are filed under the hashes of a stripe, which has one
  pub record RecordsReads (m : ObjSide) (device stripe : ℕ) (got : Result (Vec Filed Global) DirFault) (added : List ObjEntry) (after : ObjSide)
      : Type 0 where
    pub some : (hash : Hash) × (nodes.stripe hash ≡ stripe)
    pub reads : SideReads obj_rules nodes.lock m device (nodes.stripe_lock device stripe) (λ hash. true) doubts_records part_look
        (λ read front x. IsRecorded (λ records list. AreFiled nodes.secrets (in_stripe stripe nodes) (after.half.seen (nodes.stripe_lock device stripe)).told
        records list.items) read x) got added after

  abbrev pub ObjReadsPart : ObjSide → ℕ → PartRead → List ObjEntry → ObjSide → Type 0
  ObjReadsPart m device (Hashes part got) added after =
      PartReads m device part (in_part part) false (λ nodes told s got. AreHashes nodes.power part told s got.items) got added after
  ObjReadsPart m device (Files part suffix got) added after =
      PartReads m device part (in_suffix part suffix) false (λ nodes told s got. AreLines nodes.power part suffix told s got.items) got added after
  ObjReadsPart m device (ReadWrite part hash file got) added after =
      PartReads m device part (is_one hash) true (λ nodes told s got. IsFile nodes.fits hash file told s got) got added after
  ObjReadsPart m device (Records stripe got) added after = RecordsReads m device stripe got added after
  ObjReadsPart m device (Base filed row) added after =
      PartReads m device (partition_of filed.name.hash nodes.power) (is_one filed.name.hash) true
      (λ nodes told s x. told ≡ true → IsBaseFor filed (s filed.name.hash) x) row added after

  -- all its files were listed: nothing changed but counts of faults, one of which has risen where that failed
  pub record ObjLists (m : ObjSide) (device : ℕ) (failed : Bool) (after : ObjSide) : Type 0 where
    pub same : (l : ℕ) → after.half.seen l ≡ record (m.half.seen l) { faults = (after.half.seen l).faults }
    pub later : (l : ℕ) → (m.half.seen l).faults ≤ (after.half.seen l).faults
    pub others : (d : ℕ) (hash : Hash) → d ≢ device → after.half.seen (nodes.lock d hash) ≡ m.half.seen (nodes.lock d hash)
    pub risen : failed ≡ true → (l : ℕ) × HasRisen (m.half.seen l).faults (after.half.seen l).faults
    pub holds : (d : ℕ) (hash : Hash) → after.half.holds d hash ≡ m.half.holds d hash
    pub known : after.known ≡ m.known

  -- ---- what comes to a device at its containers

  -- a step that may change something
  abbrev pub ContMakes : ContSide → ℕ → Place → ContChange → ContAnswer → List ContEntry → ContSide → Type 0
  ContMakes m device place change answer added after =
      SideMakes cont_rules (cont_lock nodes) m device place change answer added (made_rows place change answer) after

  -- a read of one container
  abbrev pub ContReads : {A : Type 0} → ContSide → ℕ → Place → (Option Tables → ℕ → Result A ContAnswer) → Result A ContAnswer → List ContEntry → ContSide
      → Type 0
  ContReads m device place reading got added after =
      SideReads cont_rules (cont_lock nodes) m device (cont_lock nodes device place) (λ key. true) (λ doubt. true) cont_look
      (λ read front x. x ≡ reading (read place) front) got added after

  abbrev pub ContComes : ContSide → ℕ → ContEvent → List ContEntry → ContSide → Type 0
  ContComes m device (cont_events.Changed place change answer) added after = ContMakes m device place change answer added after
  ContComes m device (cont_events.Timed place got) added after = ContReads m device place times_of got added after
  ContComes m device (cont_events.Informed place got) added after = ContReads m device place info_of got added after
  ContComes m device (cont_events.Listed place query got) added after = ContReads m device place (listing_of query) got added after
  ContComes m device (cont_events.Parceled place to got) added after = ContReads m device place (parcel_of to) got added after
  ContComes m device (cont_events.Sharded place got) added after = ContReads m device place sharding_of got added after
  ContComes m device (cont_events.Cleft place range above got) added after = ContReads m device place (range_parcel_of range above) got added after

  -- ---- what comes to a device

  -- at its objects, whose containers stay
  abbrev pub AtObjects : Machine → Machine → (ObjSide → ObjSide → Type 0) → Type 0
  AtObjects m after step = step m.objects after.objects × (after.containers ≡ m.containers)

  abbrev pub Comes : Machine → ℕ → Event → List ObjEntry → Machine → Type 0
  Comes m device (Changed name change answer) added after = AtObjects m after (λ old new. ObjMakes old device name change answer added new)
  Comes m device (Read name got) added after = AtObjects m after (λ old new. ObjReads old device name got added new)
  Comes m device (ReadPart read) added after = AtObjects m after (λ old new. ObjReadsPart old device read added new)
  Comes m device (Listed failed) added after = (added ≡ []) × AtObjects m after (λ old new. ObjLists old device failed new)
  Comes m device (AtContainer event entries) added after =
      (added ≡ []) × ContComes m.containers device event entries after.containers × (after.objects ≡ m.objects)
  Comes m device Restarted added after =
      (added ≡ []) × SideRestarts nodes.lock m.objects device after.objects × SideRestarts (cont_lock nodes) m.containers device after.containers

  -- a step of the machine, as its line tells it
  abbrev pub Steps : Machine → RunLine → Machine → Type 0
  Steps m (Came line) after =
      WasSent m.sent line × Comes m line.device line.event line.added after × (after.sent ≡ m.sent)
  Steps m (Went from message) after = Carries m from message × (after ≡ record m { sent = m.sent ++ message ∷ [] })

  -- the steps of these lines, one after another
  abbrev pub Runs : Machine → List RunLine → Machine → Type 0
  Runs m [] after = after ≡ m
  Runs m (line ∷ lines) after = (mid : Machine) × Steps m line mid × Runs mid lines after
