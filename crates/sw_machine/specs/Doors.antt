-- How a door that is alone stands for the machine, with a trail or without: each of its steps goes on with a run. (This project's own.)
use Rattle.std.specs.Prelude.{◌≡◌, ⊤, ℕ, Bool, true, false, List, [], ◌∷◌, ◌++◌, Option, Result, Ok, Err, ◌⊎◌}
use Rattle.std.specs.Option.{option_map}
use Rattle.sw_container_steps.specs.Reads.{info_of, listing_of, parcel_of, range_parcel_of, sharding_of, times_of}
use Rattle.sw_container_steps.specs.declared.cont_answer.ContAnswer.{ContAnswer}
use Rattle.sw_container_steps.specs.declared.cont_change.ContChange.{ContChange}
use Rattle.sw_container_steps.specs.declared.cont_change.ContChange.TheVariants.{Ack, CloseRange, Create, EmptyOut, MergeRow, MergeRows, Remove}
use Rattle.sw_container_steps.specs.declared.cont_change.ContChange.TheVariants.{SetRanges, SetSync}
use Rattle.sw_container_steps.specs.declared.cont_entry.ContEntry.{ContEntry}
use Rattle.sw_diskfile.specs.declared.file_name.FileName.{FileName}
use Rattle.sw_hashpath.specs.declared.name.Name.{Name}
use Rattle.sw_hashpath.specs.declared.place.Place.{Place}
use Rattle.sw_keeper.specs.declared.tables.Tables.{Tables}
use Rattle.sw_listing.specs.declared.query.Query.{Query}
use Rattle.sw_object_steps.specs.Journals.{Hash}
use Rattle.sw_object_steps.specs.Recorded.{is_write}
use Rattle.sw_object_steps.specs.declared.change.Change.{Change}
use Rattle.sw_object_steps.specs.declared.entry.ObjEntry.{ObjEntry}
use Rattle.sw_pending.specs.declared.filed.Filed.{Filed}
use Rattle.sw_peer.specs.ContSights.{IsContMade, IsLooked, is_wanting_cont, is_wanting_look}
use Rattle.sw_peer.specs.Sights.{Calls, IsBaseRead, IsFilesRead, IsHashesRead, IsListed, IsMade, IsRead, IsRecordsRead, IsSame, IsWriteRead, Restarts, Sight}
use Rattle.sw_peer.specs.Sights.{is_wanting, is_wanting_part, is_wanting_read}
use Rattle.sw_peer.specs.declared.cont_event.ContEvent.{ContEvent}
use Rattle.sw_peer.specs.declared.cont_event.ContEvent.TheVariants as cont_events
use Rattle.sw_peer.specs.declared.line.Event.{Event}
use Rattle.sw_peer.specs.declared.line.Event.TheVariants.{AtContainer, Changed, Listed, Read, ReadPart, Restarted}
use Rattle.sw_peer.specs.declared.line.Line.{Line}
use Rattle.sw_peer.specs.declared.link.Link.{Link}
use Rattle.sw_peer.specs.declared.link.Link.TheVariants.{Local}
use Rattle.sw_peer.specs.declared.link.Lost.{Lost}
use Rattle.sw_peer.specs.declared.part_read.PartRead.TheVariants.{Base, Files, Hashes, Records, Write}
use Rattle.sw_machine.specs.Machine.{Came, Carries, Machine, RunLine, Runs, Went, came_in}
use Rattle.sw_machine.specs.Messages.{Message, Row_of, Rows_of, Update_of, WasSent}

-- what is known of the nodes, and what they hold, is the machine's
pub record StandsFor (s : Sight) (m : Machine) : Type 0 where
  pub objects : s.objects ≡ m.objects.half
  pub containers : s.containers ≡ m.containers.half

-- from this machine these lines are a run, and the door, whose nodes are the same, stands for the machine after it; where it keeps a trail, that has the
-- lines of what came
pub record GoesOn (s : Sight) (m : Machine) (lines : List RunLine) (t : Sight) : Type 0 where
  pub nodes : t.nodes ≡ s.nodes
  pub after : Machine
  pub run : Runs s.nodes m lines after
  pub stands : StandsFor t after
  pub kept : t.trail ≡ option_map (λ old. old ++ came_in lines) s.trail

-- every machine for which the door stood goes on to it as it is then
abbrev pub RunsOn : Sight → Sight → Type 0
RunsOn s t = (m : Machine) → StandsFor s m → (lines : List RunLine) × GoesOn s m lines t

-- two runs, one after the other, are one, and end with the same machine
abbrev pub GoingOnJoins : Type 0
GoingOnJoins = (s : Sight) (m : Machine) (lines : List RunLine) (t : Sight) (more : List RunLine) (u : Sight)
    → (first : GoesOn s m lines t) → (next : GoesOn t first.after more u) → (whole : GoesOn s m (lines ++ more) u) × (whole.after ≡ next.after)

abbrev pub RunsOnJoin : Type 0
RunsOnJoin = (s t u : Sight) → RunsOn s t → RunsOn t u → RunsOn s u

-- ---- lines for which nothing has to be shown: they leave records, points and ranges as they are

-- it sets no ranges and closes none, and keeps of no other device that it has rows
abbrev pub leaves_points : ContChange → Bool
leaves_points (Create time) = true
leaves_points (Remove time) = true
leaves_points (MergeRow row) = true
leaves_points (MergeRows rows) = true
leaves_points (SetRanges ranges) = false
leaves_points (Ack range device rowid) = false
leaves_points (CloseRange range devices) = false
leaves_points EmptyOut = true
leaves_points (SetSync device rowid) = false

-- it marks no record, and drops none
abbrev pub leaves_records : Event → Bool
leaves_records (Changed name change answer) = is_write change
leaves_records (AtContainer (cont_events.Changed place change answer) entries) = leaves_points change
leaves_records event = true

-- rows go to their own container
abbrev pub IsDirect : Message → Type 0
IsDirect (Row_of to place at row) = at ≡ place
IsDirect (Rows_of to place at rows) = at ≡ place
IsDirect (Update_of to filed place at row) = at ≡ place
IsDirect message = ⊤

abbrev pub LeavesRecords : RunLine → Type 0
LeavesRecords (Came line) = leaves_records line.event ≡ true
LeavesRecords (Went from message) = IsDirect message

abbrev pub LeaveRecords : List RunLine → Type 0
LeaveRecords [] = ⊤
LeaveRecords (line ∷ lines) = LeavesRecords line × LeaveRecords lines

-- every machine for which the door stood goes on to it as it is then, by such lines
abbrev pub RunsOnLeaving : Sight → Sight → Type 0
RunsOnLeaving s t = (m : Machine) → StandsFor s m → (lines : List RunLine) × LeaveRecords lines × GoesOn s m lines t

-- where only counts of the door changed, nothing came
abbrev pub SameGoesOn : Type 0
SameGoesOn = (s : Sight) (m : Machine) (t : Sight) → StandsFor s m → IsSame s t → (goes : GoesOn s m [] t) × (goes.after ≡ m)

-- what a device may send as things are goes on its way
abbrev pub SendingGoesOn : Type 0
SendingGoesOn = (s : Sight) (m : Machine) (from : ℕ) (message : Message) → StandsFor s m → Carries s.nodes m from message
    → (goes : GoesOn s m (Went from message ∷ []) s) × (goes.after ≡ record m { sent = m.sent ++ message ∷ [] })

-- ---- steps and calls of a door that is alone

-- the line of a step by the entries that it added: at an object, and at a container
abbrev pub obj_line : ℕ → Link → Event → List ObjEntry → Line
obj_line device link event added = record { device = device; link = link; event = event; added = added }

abbrev pub cont_line : ℕ → Link → ContEvent → List ContEntry → Line
cont_line device link event entries = record { device = device; link = link; event = AtContainer event entries; added = [] }

-- it goes on by one such line, or by none where it wanted memory and left none
abbrev pub GoesOnBy : {E : Type 0} → Sight → Machine → (List E → Line) → Bool → Sight → Type 0
GoesOnBy {E} s m line wanting t =
    (lines : List RunLine) × (((added : List E) × (lines ≡ Came (line added) ∷ [])) ⊎ ((wanting ≡ true) × (lines ≡ []))) × GoesOn s m lines t

module _ {A E : Type 0} (line : A → List E → Line) (wanting : A → Bool) where
  -- each of the lines is one of such a step
  abbrev pub AreLinesOf : List RunLine → Type 0
  AreLinesOf [] = ⊤
  AreLinesOf (Came one ∷ lines) = ((x : A) × (added : List E) × (one ≡ line x added)) × AreLinesOf lines
  AreLinesOf (Went from message ∷ lines) = ⊥

  -- the last of them is that of the step whose answer was heard, but where that wanted memory
  abbrev pub EndsAsHeard : Result A Lost → List RunLine → Type 0
  EndsAsHeard (Ok x) lines = ((before : List RunLine) × (added : List E) × (lines ≡ before ++ Came (line x added) ∷ [])) ⊎ (wanting x ≡ true)
  EndsAsHeard (Err lost) lines = ⊤

  -- it goes on by lines of such steps, and nothing is sent
  abbrev pub GoesOnByLines : Sight → Machine → Result A Lost → Sight → Type 0
  GoesOnByLines s m result t = (lines : List RunLine) × AreLinesOf lines × EndsAsHeard result lines × GoesOn s m lines t

module _ {A E : Type 0} (step : Link → Sight → A → Sight → Type 0) (line : Link → A → List E → Line) (wanting : A → Bool) where
  -- a call at the device itself goes on by the line of its step
  abbrev pub CallGoesOn : Type 0
  CallGoesOn = (s : Sight) (x : A) (t : Sight) → t.alone ≡ true → Calls (step Local) s Local (Ok x) t → (m : Machine) → StandsFor s m
      → GoesOnBy s m (line Local x) (wanting x) t

  -- steps that may change something go on where a message was sent that comes as they do, if they are said in one
  pub record ChangesGoOn : Type 0 where
    pub one : (link : Link) (s : Sight) (x : A) (t : Sight) (m : Machine) → StandsFor s m → t.alone ≡ true
        → ((added : List E) → WasSent m.sent (line link x added)) → step link s x t → GoesOnBy s m (line link x) (wanting x) t
    pub call : CallGoesOn
    -- over any link it came once, several times or never, and was heard or not
    pub calls : (link : Link) (s : Sight) (result : Result A Lost) (t : Sight) (m : Machine) → StandsFor s m → t.alone ≡ true
        → ((x : A) (added : List E) → WasSent m.sent (line link x added)) → Calls (step link) s link result t
        → GoesOnByLines (line link) wanting s m result t

  -- reads always do
  pub record ReadsGoOn : Type 0 where
    pub one : (link : Link) (s : Sight) (x : A) (t : Sight) (m : Machine) → StandsFor s m → t.alone ≡ true → step link s x t
        → GoesOnBy s m (line link x) (wanting x) t
    pub call : CallGoesOn
    pub calls : (link : Link) (s : Sight) (result : Result A Lost) (t : Sight) → t.alone ≡ true → Calls (step link) s link result t → (m : Machine)
        → StandsFor s m → GoesOnByLines (line link) wanting s m result t

-- ---- at objects

abbrev pub ObjectChangesGoOn : Type 0
ObjectChangesGoOn = (device : ℕ) (name : Name) (change : Change)
    → ChangesGoOn (λ link. IsMade link device name change) (λ link answer. obj_line device link (Changed name change answer)) is_wanting

abbrev pub ObjectReadsGoOn : Type 0
ObjectReadsGoOn = (device : ℕ) (name : Name)
    → ReadsGoOn (λ link. IsRead link device name) (λ link got. obj_line device link (Read name got)) is_wanting_read

-- reads of a partition: of what is compared, of the files of a suffix, and of a file
abbrev pub HashesReadsGoOn : Type 0
HashesReadsGoOn = (device part : ℕ)
    → ReadsGoOn (λ link. IsHashesRead link device part) (λ link got. obj_line device link (ReadPart (Hashes part got))) is_wanting_part

abbrev pub FilesReadsGoOn : Type 0
FilesReadsGoOn = (device part suffix : ℕ)
    → ReadsGoOn (λ link. IsFilesRead link device part suffix) (λ link got. obj_line device link (ReadPart (Files part suffix got))) is_wanting_part

abbrev pub WriteReadsGoOn : Type 0
WriteReadsGoOn = (device part : ℕ) (hash : Hash) (file : FileName)
    → ReadsGoOn (λ link. IsWriteRead link device part hash file) (λ link got. obj_line device link (ReadPart (Write part hash file got))) is_wanting_part

-- reads that records ask for: of all those of a stripe, and of the row to tell for one
abbrev pub RecordsReadsGoOn : Type 0
RecordsReadsGoOn = (device stripe : ℕ)
    → ReadsGoOn (λ link. IsRecordsRead link device stripe) (λ link got. obj_line device link (ReadPart (Records stripe got))) is_wanting_part

abbrev pub BaseReadsGoOn : Type 0
BaseReadsGoOn = (device : ℕ) (filed : Filed)
    → ReadsGoOn (λ link. IsBaseRead link device filed) (λ link row. obj_line device link (ReadPart (Base filed row))) is_wanting_part

-- ---- at containers

abbrev pub ContainerChangesGoOn : Type 0
ContainerChangesGoOn = (device : ℕ) (place : Place) (change : ContChange)
    → ChangesGoOn (λ link. IsContMade link device place change) (λ link answer. cont_line device link (cont_events.Changed place change answer)) is_wanting_cont

-- reads of one container, whose line tells of them so
abbrev pub LooksGoOn : {A : Type 0} → ℕ → Place → (Option Tables → ℕ → Result A ContAnswer) → (Result A ContAnswer → ContEvent) → Type 0
LooksGoOn device place reading event =
    ReadsGoOn (λ link. IsLooked link device place reading event) (λ link got. cont_line device link (event got)) is_wanting_look

abbrev pub TimesGoOn : Type 0
TimesGoOn = (device : ℕ) (place : Place) → LooksGoOn device place times_of (λ got. cont_events.Timed place got)

abbrev pub InfosGoOn : Type 0
InfosGoOn = (device : ℕ) (place : Place) → LooksGoOn device place info_of (λ got. cont_events.Informed place got)

abbrev pub ListingsGoOn : Type 0
ListingsGoOn = (device : ℕ) (place : Place) (query : Query) → LooksGoOn device place (listing_of query) (λ got. cont_events.Listed place query got)

-- of the rows that a device isn't known to have
abbrev pub ParcelsGoOn : Type 0
ParcelsGoOn = (device : ℕ) (place : Place) (to : ℕ) → LooksGoOn device place (parcel_of to) (λ got. cont_events.Parceled place to got)

-- of how far it is split into shards, and of the rows of a range above a number
abbrev pub ShardingsGoOn : Type 0
ShardingsGoOn = (device : ℕ) (place : Place) → LooksGoOn device place sharding_of (λ got. cont_events.Sharded place got)

abbrev pub RangeRowsGoOn : Type 0
RangeRowsGoOn = (device : ℕ) (place : Place) (range above : ℕ)
    → LooksGoOn device place (range_parcel_of range above) (λ got. cont_events.Cleft place range above got)

-- ---- of a whole device: a listing of all its files, and a restart, add no entries

abbrev pub DeviceListingsGoOn : Type 0
DeviceListingsGoOn = (device : ℕ) (failed : Bool) (s t : Sight) (m : Machine) → StandsFor s m → IsListed device failed s t
    → GoesOn s m (Came (obj_line device Local (Listed failed) []) ∷ []) t

abbrev pub RestartsGoOn : Type 0
RestartsGoOn = (device : ℕ) (s t : Sight) (m : Machine) → StandsFor s m → t.alone ≡ true → Restarts device s t
    → GoesOn s m (Came (obj_line device Local Restarted []) ∷ []) t
