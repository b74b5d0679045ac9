-- How a session ends, by its status, and what its trail tells. (This project's own.)
use Rattle.std.specs.Prelude.{◌≡◌, ⊤, ℕ, ◌*◌, ◌^◌, ◌<◌, ◌≤◌, ◌==◌, ◌&&◌, Bool, true, false, List, [], ◌++◌, length, Option, Some, Result}
use Rattle.std.specs.Prelude.{Ok, Err, ◌⊎◌, if◌then◌else◌, None}
use Rattle.sw_http.specs.Reads.{ReadsWhile}
use Rattle.sw_outside.specs.Doors.{Giving}
use Rattle.sw_outside.specs.Readings.{TicksEach}
use Rattle.sw_message.specs.declared.request.Request.{Request}
use Rattle.sw_session.specs.Replies.{Halts, Serves}
use Rattle.sw_session.specs.Session.{IsBetween, IsSession, OwnPuts, WaitsForMore}
use Rattle.sw_session.specs.declared.session.SessionFault.{SessionFault}
use Rattle.sw_session.specs.declared.session.SessionFault.TheVariants as faults
use Rattle.sw_hashpath.specs.declared.place.Place.{Place}
use Rattle.sw_object_steps.specs.Journals.{Hash}
use Rattle.sw_ring.specs.declared.ring.Ring.{Ring}
use Rattle.sw_machine.specs.Doors.{StandsFor}
use Rattle.sw_machine.specs.Honest.{AreHonest, RunsHonestly}
use Rattle.sw_machine.specs.Machine.{Machine, RunLine, Runs, came_in, machine_of, writes_at}
use Rattle.sw_pass.specs.Rings.{replicas_in}
use Rattle.sw_state.specs.States.{state_of, writes_of}
use Rattle.sw_core.specs.Worlds.{KeeperSeen, AllNodes, lock_of, nodes_of, none_stands, opened, place_lock, sight_of, stripe_at}
use Rattle.sw_hashdir.specs.Places.{holds}
use Rattle.sw_objdir.specs.Directories.{are_in_order, value_at}
use Rattle.sw_hashpath.specs.HashParts.{partition_of}
use Rattle.sw_outside.specs.Counts.{raised}
use Rattle.sw_outside.specs.declared.store_error.StoreError.{StoreError}
use Rattle.sw_outside.specs.declared.store_error.StoreError.TheVariants as store_errors
use Rattle.sw_peer.specs.declared.line.Line.{Line}
use Rattle.sw_stores.specs.Places.{IsAsItWas}
use Rattle.sw_stores.specs.Starting.{AreStarted, RestsAgain}
use Rattle.sw_volume.specs.Tree.{Folders}
use Rattle.sw_volume.specs.Volume.{raised_by}
use Rattle.sw_nodes.specs.Restarts.{AreCalled}
use Rattle.sw_nodes.specs.Server.{MayAnswer, MayHalt}
use Rattle.sw_core.specs.declared.trail.Trail.{Trail}
use Rattle.sw_cluster.specs.Limits.{run_bytes}
use Rattle.sw_cluster.specs.Holding.{HoldsOn}
use Rattle.sw_cluster.specs.Listing.{ListsExactly}
use Rattle.sw_cluster.specs.Statuses as statuses
use Rattle.sw_cluster.specs.Told.{Counts, Input, IsSilent, IsUnread, Output, given_before, given_now, read_of, written_of}

-- the status of an outcome
abbrev pub status_by : Result ⊤ SessionFault → ℕ
status_by (Ok _) = statuses.complete
status_by (Err faults.ReadFault) = statuses.read_fault
status_by (Err faults.WriteFault) = statuses.write_fault
status_by (Err faults.TooLong) = statuses.too_long
status_by (Err faults.BadInput) = statuses.bad_input
status_by (Err faults.ServerFault) = statuses.store_fault
status_by (Err faults.NoMemory) = statuses.no_memory

-- The input was read only where all that had come whole was answered: what was seen before the last read were the texts of requests that the session
-- answered, none of them a last one, and a rest in which one may still come. So it was before each.
abbrev pub ReadsInTurn : {S : Type 0} → (Request → Bool) → Serves S → S → List ℕ → Input → Type 0
ReadsInTurn last may start moments source = ReadsWhile (λ (g : Giving). g.left) (λ (g : Giving). g.calls) (given_before source) (given_now source)
    source.before (IsBetween last may start moments)

-- A session ended with this status, which tells how: no two outcomes have one status. Its output was called for each reply, for each client that waits to
-- be told to go on and for what refuses a rest, each once, and no further time. Where a read failed, every request that had come whole was answered.
pub record Ends {S : Type 0} (last : Request → Bool) (may : Serves S) (halts : Halts S) (start : S) (source : Input) (sink : Output) (moments : List ℕ)
    (after : S) (status : ℕ) : Type 0 where
  pub ended : Result ⊤ SessionFault
  pub status_is : status ≡ status_by ended
  pub session : IsSession last may halts start (read_of source) (written_of sink) moments after ended
  pub puts : OwnPuts last may halts start after source.before sink.before sink.now moments sink.calls sink.calls_now ended
  pub reads : ReadsInTurn last may start moments source
  pub waits : ended ≡ Err faults.ReadFault
      → WaitsForMore last may start after source.before source.now sink.before sink.now moments sink.calls sink.calls_now

-- no device but those of the ring has anything
pub record HasNoOthers (ring : Ring) (machine : Machine) : Type 0 where
  pub objects : (device : ℕ) (hash : Hash) → length ring.devices ≤ device → machine.objects.half.holds device hash ≡ none_stands
  pub containers : (device : ℕ) (place : Place) → length ring.devices ≤ device → machine.containers.half.holds device place ≡ None

module _ {V K : Type 0} (tells : V → Bool) (files : V → Folders) (faults : V → ℕ) (keeps : KeeperSeen K) where
  -- At the place of each object lock rests a volume, whose count of faults is the lock's in the machine. Where the lock told its contents as the run
  -- began, its files stand for what they stood for then, joined with the writes that reached there since, whatever failed there or elsewhere. That is what the
  -- machine has, and its records are those that stand among them. And they are in order, so that a next run begins with a lock that tells its contents
  pub record IsStored (ring : Ring) (began : AllNodes V K) (machine : Machine) (rests : ℕ → ℕ → Option (V × K)) (device : ℕ) (hash : Hash) : Type 0 where
    pub part : V × K
    pub resting : rests device (stripe_at ring.lock_bits ring.power (partition_of hash ring.power)) ≡ Some part
    pub stands : ((sight_of tells files faults keeps began).objects.seen (lock_of ring.lock_bits ring.power device hash)).told ≡ true
        → holds ring.secrets ring.power (files part.0) hash
        ≡ state_of (writes_of ((sight_of tells files faults keeps began).objects.holds device hash).state ++ writes_at machine device hash)
    pub value : ((sight_of tells files faults keeps began).objects.seen (lock_of ring.lock_bits ring.power device hash)).told ≡ true
        → value_at ring.secrets ring.power (files part.0) hash ≡ machine.objects.half.holds device hash
    pub order : ((sight_of tells files faults keeps began).objects.seen (lock_of ring.lock_bits ring.power device hash)).told ≡ true
        → (tells part.0 && are_in_order ring.secrets ring.power (files part.0)) ≡ true
    pub counts : (machine.objects.half.seen (lock_of ring.lock_bits ring.power device hash)).faults ≡ faults part.0

  -- Beside it rests the keeper of the container lock, whose count of faults is that lock's in the machine. Where the lock told its tables as the run began,
  -- the keeper tells those that it has, and they are the machine's
  pub record IsKept (ring : Ring) (began : AllNodes V K) (machine : Machine) (rests : ℕ → ℕ → Option (V × K)) (device : ℕ) (place : Place) : Type 0 where
    pub part : V × K
    pub resting : rests device (stripe_at ring.lock_bits ring.power (partition_of place.hash ring.power)) ≡ Some part
    pub told : ((sight_of tells files faults keeps began).containers.seen (place_lock ring.lock_bits ring.power device place)).told ≡ true
        → keeps.tells part.1 ≡ true
    pub stands : ((sight_of tells files faults keeps began).containers.seen (place_lock ring.lock_bits ring.power device place)).told ≡ true
        → keeps.holds part.1 place ≡ machine.containers.half.holds device place
    pub counts : (machine.containers.half.seen (place_lock ring.lock_bits ring.power device place)).faults ≡ keeps.faults part.1

  -- The trail tells what happened: its steps are those that came in a run of the machine from what the nodes began with, so each is answered by
  -- what had reached its device before, and what came in a message had been sent. The run is honest: what devices keep of others they were told. So where it
  -- began with nothing each listing in it of a container of which no record is pending, and that isn't split into shards at the device, is exactly its live
  -- objects; and no row that a replica holds is lost, also while its container is split. In the end the files stand for what reached, and the keepers have the
  -- machine's tables: the nodes went on so to what they were last, before any device of them was out, from whatever machine they stood for at first.
  pub record IsTrail (ring : Ring) (began after : AllNodes V K) (rests : ℕ → ℕ → Option (V × K)) (steps : List Line) : Type 0 where
    pub lines : List RunLine
    pub came : came_in lines ≡ steps
    pub machine : Machine
    pub run : Runs (nodes_of (length ring.devices) ring.lock_bits ring.power ring.secrets) (machine_of (sight_of tells files faults keeps began)) lines machine
    pub honest : AreHonest ring.secrets (replicas_in ring) [] lines
    pub lists : ListsExactly ring (sight_of tells files faults keeps began) lines machine run
    pub holds : HoldsOn ring (sight_of tells files faults keeps began) lines machine
    pub last : AllNodes V K
    pub comes : RunsHonestly ring.secrets (replicas_in ring) (sight_of tells files faults keeps began) (sight_of tells files faults keeps last)
    pub stands : StandsFor (sight_of tells files faults keeps last) machine
    pub others : HasNoOthers ring machine
    pub stored : (device : ℕ) (hash : Hash) → device < length ring.devices → IsStored ring began machine rests device hash
    pub kept : (device : ℕ) (place : Place) → device < length ring.devices → IsKept ring began machine rests device place

  -- A session was run over these nodes of a ring, in which no request is a last one, and then their volumes and keepers were given back
  pub record IsRunOver (ring : Ring) (began : AllNodes V K) (rests_now : ℕ → ℕ → Option (V × K)) (stores stores_now : Counts)
      (source : Input) (sink : Output) (clock clock_now : Option (List ℕ)) (trail : Trail) (status : ℕ) : Type 0 where
    pub after : AllNodes V K
    pub ends : Ends (λ request. false) (MayAnswer tells files faults keeps ring) (λ w r moment fault. MayHalt tells files faults keeps ring w r) began source
        sink trail.moments after status
    pub steps : trail.steps ≡ after.lines
    pub told : IsTrail ring began after rests_now trail.steps
    pub moments : TicksEach clock clock_now trail.moments
    pub store_faults_are : stores_now.faults ≡ (if status == statuses.store_fault then raised stores.faults else stores.faults)
    pub store_calls_are : AreCalled ring after.lifted trail.steps stores.calls stores_now.calls

  -- the volumes and keepers of a ring's nodes were started, by one call of the stores for each lock, and a session run over them
  pub record IsRun (first : V × K → Type 0) (ring : Ring) (rests rests_now : ℕ → ℕ → Option (V × K)) (stores stores_now : Counts)
      (source : Input) (sink : Output) (clock clock_now : Option (List ℕ)) (trail : Trail) (status : ℕ) : Type 0 where
    pub parts : List (V × K)
    pub started : AreStarted first rests (2 ^ ring.lock_bits) 0 parts
    pub count : length parts ≡ length ring.devices * 2 ^ ring.lock_bits
    pub over : IsRunOver ring (opened run_bytes ring parts) rests_now
        (record stores { calls = raised_by (length ring.devices * 2 ^ ring.lock_bits) stores.calls }) stores_now source sink clock clock_now trail status

-- the status of a command whose volumes and keepers couldn't be started
abbrev pub start_status : StoreError → ℕ
start_status store_errors.Failed = statuses.store_fault
start_status store_errors.NoMemory = statuses.no_memory

-- the volumes and keepers of a ring's nodes couldn't be started, or there was no memory for the nodes. Those that were started rest again
pub record AreUnstarted {V K : Type 0} (first : V × K → Type 0) (ring : Ring) (rests rests_now : ℕ → ℕ → Option (V × K)) (stores stores_now : Counts)
    (status : ℕ) : Type 0 where
  pub why : ((status ≡ statuses.store_fault) × (stores_now.faults ≡ raised stores.faults)) ⊎
      ((status ≡ statuses.no_memory) × (stores_now.faults ≡ stores.faults))
  pub tried : ℕ
  pub most : tried ≤ length ring.devices * 2 ^ ring.lock_bits
  pub store_calls_are : stores_now.calls ≡ raised_by tried stores.calls
  pub resting : (device stripe : ℕ) → RestsAgain first (rests device stripe) (rests_now device stripe)

-- so no session was run
pub record IsUnbegun {V K : Type 0} (first : V × K → Type 0) (ring : Ring) (rests rests_now : ℕ → ℕ → Option (V × K)) (stores stores_now : Counts)
    (source : Input) (sink : Output) (clock clock_now : Option (List ℕ)) (trail : Trail) (status : ℕ) : Type 0 where
  pub unstarted : AreUnstarted first ring rests rests_now stores stores_now status
  pub nothing_read : IsUnread source
  pub nothing_written : IsSilent sink
  pub no_tick : clock_now ≡ clock
  pub no_steps : trail.steps ≡ []
  pub no_moments : trail.moments ≡ []

-- how `run` goes on with a ring, which it read by one call of the stores: from what rests in them then, which is what rested before
pub record RunsRing {V K : Type 0} (tells : V → Bool) (files : V → Folders) (faults : V → ℕ) (keeps : KeeperSeen K) (first : V × K → Type 0) (ring : Ring)
    (rests rests_now : ℕ → ℕ → Option (V × K)) (stores stores_now : Counts)
    (source : Input) (sink : Output) (clock clock_now : Option (List ℕ)) (trail : Trail) (status : ℕ) : Type 0 where
  pub began : ℕ → ℕ → Option (V × K)
  pub same : IsAsItWas rests began
  pub ends : IsRun tells files faults keeps first ring began rests_now (record stores { calls = raised stores.calls }) stores_now source sink
      clock clock_now trail status
      ⊎ IsUnbegun first ring began rests_now (record stores { calls = raised stores.calls }) stores_now source sink clock clock_now trail status
