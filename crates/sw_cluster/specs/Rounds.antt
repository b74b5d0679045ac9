-- Connections that are served one after the other, over the nodes of a ring. (This project's own.)
use Rattle.std.specs.Prelude.{◌≡◌, ⊤, ℕ, zero, suc, ◌+◌, ◌*◌, ◌^◌, ◌<◌, ◌≤◌, Bool, List, [], ◌∷◌, ◌++◌, length, map, codes, decimal, Option, Result, Ok, Err}
use Rattle.std.specs.Prelude.{◌⊎◌}
use Rattle.std.specs.Io.KnownBytes.{Appends}
use Rattle.sw_machine.specs.Doors.{LeaveRecords, RunsOnLeaving, StandsFor}
use Rattle.sw_machine.specs.Machine.{Machine, RunLine, Runs, machine_of}
use Rattle.sw_core.specs.Worlds.{KeeperSeen, AllNodes, Lifts, nodes_of, opened}
use Rattle.sw_outside.specs.Counts.{raised}
use Rattle.sw_outside.specs.Doors.{Accepted, Finished}
use Rattle.sw_outside.specs.Readings.{TicksEach}
use Rattle.sw_outside.specs.Taken.{AppendsPart}
use Rattle.sw_hashpath.specs.declared.place.Place.{Place}
use Rattle.sw_object_steps.specs.Journals.{Hash}
use Rattle.sw_peer.specs.Sights.{Sight}
use Rattle.sw_quiet.specs.Quiet.{SetsDownQuietly, quiet_sight_of}
use Rattle.sw_ring.specs.declared.ring.Ring.{Ring}
use Rattle.sw_stores.specs.Places.{IsAsItWas}
use Rattle.sw_stores.specs.Starting.{AreStarted}
use Rattle.sw_volume.specs.Tree.{Folders}
use Rattle.sw_volume.specs.Volume.{raised_by}
use Rattle.sw_cluster.specs.Connections.{IsConnection}
use Rattle.sw_cluster.specs.Ending.{AreUnstarted, HasNoOthers, IsKept, IsStored}
use Rattle.sw_cluster.specs.Limits.{serve_bytes}
use Rattle.sw_cluster.specs.Statuses as statuses
use Rattle.sw_cluster.specs.Told.{Counts, DoorsTold, Input, IsSilent, Output}
use Rattle.sw_cluster.specs.declared.rounds.ServeFault.{ServeFault}
use Rattle.sw_cluster.specs.declared.rounds.ServeFault.TheVariants as serve_faults

-- ---- lines and statuses

-- the line that says that the port is open, and the one that says how many connections were served
abbrev pub listening_line : ℕ → List ℕ
listening_line port = (codes "listening " ++ decimal port) ++ 10 ∷ []

abbrev pub connections_line : ℕ → List ℕ
connections_line connections = (codes "connections " ++ decimal connections) ++ 10 ∷ []

-- the status by which serving ended
abbrev pub serve_status : Result ⊤ ServeFault → ℕ
serve_status (Ok _) = statuses.complete
serve_status (Err serve_faults.Write) = statuses.write_fault
serve_status (Err serve_faults.Store) = statuses.store_fault
serve_status (Err serve_faults.Door) = statuses.door_fault
serve_status (Err serve_faults.NoMemory) = statuses.no_memory

-- ---- lines

-- A line was put whole, in one call; or a front of it, where that call failed; or nothing, where there was no memory for it.
abbrev pub SaysLine : List ℕ → Output → Result ⊤ ServeFault → Type 0
SaysLine line out (Ok _) = Appends out.before out.now line × (out.faults_now ≡ out.faults) × (out.calls_now ≡ raised out.calls)
SaysLine line out (Err serve_faults.Write) =
    AppendsPart out.before out.now line × (out.faults_now ≡ raised out.faults) × (out.calls_now ≡ raised out.calls)
SaysLine line out (Err serve_faults.NoMemory) = IsSilent out
SaysLine line out (Err serve_faults.Store) = ⊥
SaysLine line out (Err serve_faults.Door) = ⊥

-- ---- rounds

-- a connection that was served
pub record Round : Type 0 where
  pub accepted : Accepted  -- its ends, as they were when it was accepted
  pub finished : Finished  -- and when it was finished, with its status
  pub moment : ℕ  -- at which its requests were answered

-- what it made of its source, and of its sink
abbrev pub read_in : Round → Input
read_in r = record {
  before = r.accepted.source.left;
  now = r.finished.source.left;
  faults = r.accepted.source.faults;
  faults_now = r.finished.source.faults;
  calls = r.accepted.source.calls;
  calls_now = r.finished.source.calls;
}

abbrev pub written_in : Round → Output
written_in r = record {
  before = r.accepted.sink.taken;
  now = r.finished.sink.taken;
  faults = r.accepted.sink.faults;
  faults_now = r.finished.sink.faults;
  calls = r.accepted.sink.calls;
  calls_now = r.finished.sink.calls;
}

-- both of its ends were its own when it was finished, and no other connection had been accepted since
pub record IsInItsPlace (r : Round) : Type 0 where
  pub read_at : r.finished.read_at ≡ r.accepted.number
  pub written_at : r.finished.written_at ≡ r.accepted.number
  pub among : r.finished.among ≡ r.accepted.number

-- a connection was served over these nodes: its requests were answered to its own client, before another connection was accepted
pub record IsServed {D : Type 0} (sight : D → Sight) (ring : Ring) (old : D) (r : Round) (new : D) : Type 0 where
  pub answered : IsConnection sight ring r.moment old (read_in r) (written_in r) new r.finished.status
  pub in_place : IsInItsPlace r

-- the doors accepted and finished these connections in their order, and the clock was read once for each
pub record AreHeard (rounds : List Round) (doors doors_now : DoorsTold) (clock clock_now : Option (List ℕ)) : Type 0 where
  pub accepted : doors_now.accepted ≡ doors.accepted ++ map (λ r. r.accepted) rounds
  pub finished : doors_now.finished ≡ doors.finished ++ map (λ r. r.finished) rounds
  pub ticks : TicksEach clock clock_now (map (λ r. r.moment) rounds)

module _ {V K : Type 0} (tells : V → Bool) (files : V → Folders) (faults : V → ℕ) (keeps : KeeperSeen K) (ring : Ring) where
  -- a device was restarted: its volumes and keepers were given back, and the same ones started again
  pub record RestartsDevice (device : ℕ) (w after : AllNodes V K) : Type 0 where
    pub given : List (V × K)
    pub mid : AllNodes V K
    pub up : Lifts tells files faults keeps w device given mid
    pub down : SetsDownQuietly mid device given after

  -- so many first devices were restarted, in order
  abbrev pub RestartsFirst : ℕ → AllNodes V K → AllNodes V K → Type 0
  RestartsFirst zero w after = after ≡ w
  RestartsFirst (suc n) w after = (mid : AllNodes V K) × RestartsFirst n w mid × RestartsDevice n mid after

  -- a connection was served
  abbrev pub ServesOne : AllNodes V K → Round → AllNodes V K → Type 0
  ServesOne w r after = IsServed (quiet_sight_of tells files faults keeps) ring w r after

  -- those of these connections were, each over the nodes as the ones before it left them, and after each all devices were restarted
  abbrev pub ServesAll : AllNodes V K → List Round → AllNodes V K → Type 0
  ServesAll w [] after = after ≡ w
  ServesAll w (r ∷ rounds) after =
      (served : AllNodes V K) × (again : AllNodes V K) × ServesOne w r served × RestartsFirst (length ring.devices) served again × ServesAll again rounds after

  -- all were served, `after` are the nodes then, and no call failed
  pub record AllServed (connections : ℕ) (began after : AllNodes V K) (doors doors_now : DoorsTold) (clock clock_now : Option (List ℕ))
      (stores stores_now : Counts) : Type 0 where
    pub rounds : List Round
    pub serves : ServesAll began rounds after
    pub heard : AreHeard rounds doors doors_now clock clock_now
    pub count : length rounds ≡ connections
    pub door_calls : doors_now.calls ≡ raised_by (length rounds) doors.calls
    pub door_faults : doors_now.faults ≡ doors.faults
    pub store_calls : stores_now.calls ≡ raised_by (length rounds * length ring.devices * 2 ^ ring.lock_bits) stores.calls
    pub store_faults : stores_now.faults ≡ stores.faults

  -- some were, and the next one couldn't be accepted
  pub record StopsWaiting (connections : ℕ) (began after : AllNodes V K) (doors doors_now : DoorsTold) (clock clock_now : Option (List ℕ))
      (stores stores_now : Counts) : Type 0 where
    pub rounds : List Round
    pub serves : ServesAll began rounds after
    pub heard : AreHeard rounds doors doors_now clock clock_now
    pub few : length rounds < connections
    pub door_calls : doors_now.calls ≡ raised_by (length rounds + 1) doors.calls
    pub store_calls : stores_now.calls ≡ raised_by (length rounds * length ring.devices * 2 ^ ring.lock_bits) stores.calls

  -- some were, and the next one as well, but after it a device couldn't be restarted, though those before it were. `after` are the nodes before that
  pub record StopsRestarting (connections : ℕ) (began after : AllNodes V K) (doors doors_now : DoorsTold) (clock clock_now : Option (List ℕ))
      (stores stores_now : Counts) : Type 0 where
    pub rounds : List Round
    pub then : AllNodes V K
    pub serves : ServesAll began rounds then
    pub last : Round
    pub served : AllNodes V K
    pub one : ServesOne then last served
    pub device : ℕ
    pub is_device : device < length ring.devices
    pub restarted : RestartsFirst device served after
    pub heard : AreHeard (rounds ++ last ∷ []) doors doors_now clock clock_now
    pub few : length rounds < connections
    pub door_calls : doors_now.calls ≡ raised_by (length rounds + 1) doors.calls
    pub tried : ℕ  -- how many of its locks' parts were to be started
    pub most : tried ≤ 2 ^ ring.lock_bits
    pub store_calls : stores_now.calls ≡ raised_by (tried + (length rounds * length ring.devices + device) * 2 ^ ring.lock_bits) stores.calls

  -- what became of the connections that were to be served. One call failed where that ended it, and else none
  abbrev pub EndsConnections : ℕ → AllNodes V K → AllNodes V K → DoorsTold → DoorsTold → Option (List ℕ) → Option (List ℕ) → Counts → Counts → Result ⊤
      ServeFault →
      Type 0
  EndsConnections connections began after doors doors_now clock clock_now stores stores_now (Ok _) =
      AllServed connections began after doors doors_now clock clock_now stores stores_now
  EndsConnections connections began after doors doors_now clock clock_now stores stores_now (Err serve_faults.Door) =
      StopsWaiting connections began after doors doors_now clock clock_now stores stores_now
      × (doors_now.faults ≡ raised doors.faults) × (stores_now.faults ≡ stores.faults)
  EndsConnections connections began after doors doors_now clock clock_now stores stores_now (Err serve_faults.Store) =
      StopsRestarting connections began after doors doors_now clock clock_now stores stores_now
      × (doors_now.faults ≡ doors.faults) × (stores_now.faults ≡ raised stores.faults)
  EndsConnections connections began after doors doors_now clock clock_now stores stores_now (Err serve_faults.NoMemory) =
      (StopsWaiting connections began after doors doors_now clock clock_now stores stores_now
      ⊎ StopsRestarting connections began after doors doors_now clock clock_now stores stores_now)
      × (doors_now.faults ≡ doors.faults) × (stores_now.faults ≡ stores.faults)
  EndsConnections connections began after doors doors_now clock clock_now stores stores_now (Err serve_faults.Write) = ⊥

  -- ---- from the first line to the last

  -- the port was opened, but that couldn't be said
  pub record IsMute (port : ℕ) (began after : AllNodes V K) (doors doors_now : DoorsTold) (out : Output) (clock clock_now : Option (List ℕ))
      (stores stores_now : Counts) (ended : Result ⊤ ServeFault) : Type 0 where
    pub fault : ServeFault
    pub ended_is : ended ≡ Err fault
    pub nothing_came : after ≡ began
    pub doors_are : doors_now ≡ doors
    pub says : SaysLine (listening_line port) out (Err fault)
    pub no_tick : clock_now ≡ clock
    pub no_start : stores_now ≡ stores

  -- what is said in the end, by what became of the connections: how many they are, where all were served
  abbrev pub Concludes : ℕ → Output → Result ⊤ ServeFault → Result ⊤ ServeFault → Type 0
  Concludes connections out (Ok _) ended = SaysLine (connections_line connections) out ended
  Concludes connections out (Err fault) ended = (ended ≡ Err fault) × IsSilent out

  -- the port was opened, that was said, and the connections were served
  pub record IsOver (port connections : ℕ) (began after : AllNodes V K) (doors doors_now : DoorsTold) (out : Output)
      (clock clock_now : Option (List ℕ)) (stores stores_now : Counts) (ended : Result ⊤ ServeFault) : Type 0 where
    pub said : Option (List ℕ)  -- what the output had taken then, where it tells that
    pub says : Appends out.before said (listening_line port)
    pub came : Result ⊤ ServeFault
    pub served : EndsConnections connections began after doors doors_now clock clock_now stores stores_now came
    pub concludes : Concludes connections (record out { before = said; calls = raised out.calls }) came ended

  -- how serving ended, once the port was open. One call failed where that ended it, and else none
  abbrev pub EndsServing : ℕ → ℕ → AllNodes V K → AllNodes V K → DoorsTold → DoorsTold → Output → Option (List ℕ) → Option (List ℕ) → Counts → Counts
      → Result ⊤ ServeFault → Type 0
  EndsServing port connections began after doors doors_now out clock clock_now stores stores_now ended =
      IsMute port began after doors doors_now out clock clock_now stores stores_now ended
      ⊎ IsOver port connections began after doors doors_now out clock clock_now stores stores_now ended

  -- ---- what rests then

  -- The nodes went through a run of the machine, in which no record was marked or dropped, and stand for the machine after it, and so do the files of their
  -- volumes and the tables of their keepers, which rest in the stores. From whatever machine they stood for at first they went on so
  pub record HasServed (began after : AllNodes V K) (rests : ℕ → ℕ → Option (V × K)) : Type 0 where
    pub lines : List RunLine
    pub machine : Machine
    pub run : Runs (nodes_of (length ring.devices) ring.lock_bits ring.power ring.secrets)
        (machine_of (quiet_sight_of tells files faults keeps began)) lines machine
    pub leaves : LeaveRecords lines
    pub comes : RunsOnLeaving (quiet_sight_of tells files faults keeps began) (quiet_sight_of tells files faults keeps after)
    pub stands : StandsFor (quiet_sight_of tells files faults keeps after) machine
    pub others : HasNoOthers ring machine
    pub stored : (device : ℕ) (hash : Hash) → device < length ring.devices → IsStored tells files faults keeps ring began machine rests device hash
    pub kept : (device : ℕ) (place : Place) → device < length ring.devices → IsKept tells files faults keeps ring began machine rests device place

  -- over these nodes the connections were served, and then their volumes and keepers given back
  pub record IsServedOver (port connections : ℕ) (began : AllNodes V K) (rests_now : ℕ → ℕ → Option (V × K)) (doors doors_now : DoorsTold) (out : Output)
      (clock clock_now : Option (List ℕ)) (stores stores_now : Counts) (status : ℕ) : Type 0 where
    pub after : AllNodes V K
    pub ended : Result ⊤ ServeFault
    pub status_is : status ≡ serve_status ended
    pub ends : EndsServing port connections began after doors doors_now out clock clock_now stores stores_now ended
    pub served : HasServed began after rests_now

  -- the volumes and keepers of a ring's nodes were started, by one call of the stores for each lock, and the connections served over them
  pub record IsServing (first : V × K → Type 0) (port connections : ℕ) (rests rests_now : ℕ → ℕ → Option (V × K)) (doors doors_now : DoorsTold) (out : Output)
      (clock clock_now : Option (List ℕ)) (stores stores_now : Counts) (status : ℕ) : Type 0 where
    pub parts : List (V × K)
    pub started : AreStarted first rests (2 ^ ring.lock_bits) 0 parts
    pub count : length parts ≡ length ring.devices * 2 ^ ring.lock_bits
    pub over : IsServedOver port connections (opened serve_bytes ring parts) rests_now doors doors_now out clock clock_now
        (record stores { calls = raised_by (length ring.devices * 2 ^ ring.lock_bits) stores.calls }) stores_now status

-- the port couldn't be opened, and then no volume or keeper was touched
pub record IsDeaf {V K : Type 0} (rests rests_now : ℕ → ℕ → Option (V × K)) (doors doors_now : DoorsTold) (out : Output) (clock clock_now : Option (List ℕ))
    (stores stores_now : Counts) (status : ℕ) : Type 0 where
  pub status_is : status ≡ statuses.door_fault
  pub doors_are : doors_now ≡ record doors { calls = raised doors.calls; faults = raised doors.faults }
  pub nothing_written : IsSilent out
  pub no_tick : clock_now ≡ clock
  pub no_start : stores_now ≡ stores
  pub resting : IsAsItWas rests rests_now

-- doors once the port is open
abbrev pub listened : DoorsTold → DoorsTold
listened doors = record doors { calls = raised doors.calls }

-- none was served, though the port was open: the volumes and keepers couldn't be started, or there was no memory for the nodes. Those that were started rest
-- again
pub record IsUnserved {V K : Type 0} (first : V × K → Type 0) (ring : Ring) (rests rests_now : ℕ → ℕ → Option (V × K)) (doors doors_now : DoorsTold)
    (out : Output)
    (clock clock_now : Option (List ℕ)) (stores stores_now : Counts) (status : ℕ) : Type 0 where
  pub unstarted : AreUnstarted first ring rests rests_now stores stores_now status
  pub doors_are : doors_now ≡ doors
  pub nothing_written : IsSilent out
  pub no_tick : clock_now ≡ clock

-- the volumes and keepers were started and the connections served over them, or none was served
abbrev pub ServesListened : {V K : Type 0} → (V → Bool) → (V → Folders) → (V → ℕ) → KeeperSeen K → (V × K → Type 0) → Ring → ℕ → ℕ → (ℕ → ℕ → Option (V × K)) →
    (ℕ → ℕ → Option (V × K))
    → DoorsTold → DoorsTold → Output → Option (List ℕ) → Option (List ℕ) → Counts → Counts → ℕ → Type 0
ServesListened tells files faults keeps first ring port connections rests rests_now doors doors_now out clock clock_now stores stores_now status =
    IsServing tells files faults keeps ring first port connections rests rests_now doors doors_now out clock clock_now stores stores_now status
    ⊎ IsUnserved first ring rests rests_now doors doors_now out clock clock_now stores stores_now status

-- The port is opened first: where it can't be, no volume or keeper is touched.
abbrev pub ServesAt : {V K : Type 0} → (V → Bool) → (V → Folders) → (V → ℕ) → KeeperSeen K → (V × K → Type 0) → Ring → ℕ → ℕ → (ℕ → ℕ → Option (V × K)) →
    (ℕ → ℕ → Option (V × K))
    → DoorsTold → DoorsTold → Output → Option (List ℕ) → Option (List ℕ) → Counts → Counts → ℕ → Type 0
ServesAt tells files faults keeps first ring port connections rests rests_now doors doors_now out clock clock_now stores stores_now status =
    IsDeaf rests rests_now doors doors_now out clock clock_now stores stores_now status
    ⊎ ServesListened tells files faults keeps first ring port connections rests rests_now (listened doors) doors_now out clock clock_now stores stores_now
    status

-- how `serve` goes on with a ring, which it read by one call of the stores: from what rests in them then, which is what rested before
pub record ServesRing {V K : Type 0} (tells : V → Bool) (files : V → Folders) (faults : V → ℕ) (keeps : KeeperSeen K) (first : V × K → Type 0) (ring : Ring)
    (port connections : ℕ)
    (rests rests_now : ℕ → ℕ → Option (V × K)) (doors doors_now : DoorsTold) (out : Output) (clock clock_now : Option (List ℕ))
    (stores stores_now : Counts) (status : ℕ) : Type 0 where
  pub began : ℕ → ℕ → Option (V × K)
  pub same : IsAsItWas rests began
  pub ends : ServesAt tells files faults keeps first ring port connections began rests_now doors doors_now out clock clock_now
      (record stores { calls = raised stores.calls }) stores_now status
