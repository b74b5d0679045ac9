-- What a request is answered, and what it leaves of the nodes. (OpenStack Swift's servers, in the profile of this product.)
--
-- A reply is a relation, since want of memory may be answered in place of any reply. Then no step came, or the one that the request asks
-- for, which changed nothing.
use Rattle.std.specs.Prelude.{◌≡◌, ℕ, Bool, true, false, List, [], MatchBool, ◌⊎◌, Option, None, Some, Result, Ok, Err, IfOk}
use Rattle.std.specs.declared.alloc.Global.{Global}
use Rattle.std.specs.declared.vec.Vec.{Vec}
use Rattle.sw_message.specs.declared.request.Request.{Request}
use Rattle.sw_message.specs.declared.response.Response.{Response}
use Rattle.sw_ring.specs.declared.ring.Ring.{Ring}
use Rattle.sw_object_server.specs.Replies.{bare}
use Rattle.sw_container_server.specs.Serving as containers
use Rattle.sw_object_server.specs.Serving as objects
use Rattle.sw_container_server.specs.Targets.{is_for_containers}
use Rattle.sw_container_steps.specs.Reads.{sharding_of}
use Rattle.sw_container_steps.specs.declared.cont_answer.ContAnswer.{ContAnswer}
use Rattle.sw_container_steps.specs.declared.cont_answer.ContAnswer.TheVariants as answers
use Rattle.sw_container_steps.specs.declared.sharding.Sharding.{Sharding}
use Rattle.sw_replica_server.specs.Serving as replicas
use Rattle.sw_replica_server.specs.Targets.{is_replication_of}
use Rattle.sw_control.specs.Asking.{IsControl, is_control}
use Rattle.sw_control.specs.OutcomeText.{outcome_text}
use Rattle.sw_control.specs.PendingText.{pending_text}
use Rattle.sw_control.specs.ShardsText.{shards_text}
use Rattle.sw_control.specs.Texts.{files_text, text_reply}
use Rattle.sw_control.specs.TrailText.{trail_text}
use Rattle.sw_control.specs.declared.asking.Control.{Control}
use Rattle.sw_control.specs.declared.asking.Control.TheVariants as controls
use Rattle.sw_control.specs.declared.cleaving.Cleaving.{Cleaving}
use Rattle.sw_control.specs.declared.replication.Replication.{Replication}
use Rattle.sw_control.specs.declared.row_push.RowPush.{RowPush}
use Rattle.sw_control.specs.declared.shard_creation.ShardCreation.{ShardCreation}
use Rattle.sw_control.specs.declared.shards_read.ShardsRead.{ShardsRead}
use Rattle.sw_control.specs.declared.update.Update.{Update}
use Rattle.sw_machine.specs.Honest.{RunsHonestly}
use Rattle.sw_core.specs.Listing.{AreCalm, ListsFiles, is_failed}
use Rattle.sw_core.specs.Worlds.{KeeperSeen, AllNodes, IsSameWorld, Lifts, SetsDown, sight_of}
use Rattle.sw_object_steps.specs.declared.dir_fault.DirFault.{DirFault}
use Rattle.sw_outside.specs.declared.errors.NoMemory.{NoMemory}
use Rattle.sw_pass.specs.declared.outcome.Outcome.{Outcome}
use Rattle.sw_peer.specs.ContSights.{IsLooked}
use Rattle.sw_peer.specs.Sights.{Calls, IsListed}
use Rattle.sw_peer.specs.declared.cont_event.ContEvent.TheVariants.{Sharded}
use Rattle.sw_peer.specs.declared.link.Link.TheVariants.{Local}
use Rattle.sw_pending.specs.declared.filed.Filed.{Filed}
use Rattle.sw_replica_server.specs.Replies.{fault_reply, shows_fault}
use Rattle.sw_shard_range.specs.declared.range.Range.{Range}
use Rattle.sw_steps.specs.Passing.{AreRowsPushedOver, AreShardsCreatedOver, IsCleftOver, IsPushedOver, IsUpdateOver}
use Rattle.sw_pass.specs.Rings.{replicas_in}
use Rattle.sw_updater.specs.Reading.{ArePending}
use Rattle.sw_volume.specs.Tree.{Folders}
use Rattle.sw_volume.specs.declared.errors.VolumeError.{VolumeError}
use Rattle.sw_volume.specs.declared.errors.VolumeError.TheVariants as volume_errors

-- ---- control requests

-- the reply to a listing of all files of a device: only for the text of what was listed memory may be wanting yet
abbrev pub IsFilesReply : Result (List (List ℕ)) VolumeError → Response → Type 0
IsFilesReply (Ok paths) response = (response ≡ text_reply (files_text paths)) ⊎ (response ≡ bare 500)
IsFilesReply (Err volume_errors.Failed) response = response ≡ bare 507
IsFilesReply (Err volume_errors.NoMemory) response = response ≡ bare 500

-- the reply to a read of records: for their text, or for that of what is damaged, memory may be wanting yet
abbrev pub IsPendingReply : List (List ℕ) → Result (Result (Vec Filed Global) DirFault) NoMemory → Response → Type 0
IsPendingReply devices (Ok (Ok records)) response = (response ≡ text_reply (pending_text devices records.items)) ⊎ (response ≡ bare 500)
IsPendingReply devices (Ok (Err fault)) response = (response ≡ fault_reply fault) ⊎ ((shows_fault fault ≡ true) × (response ≡ bare 500))
IsPendingReply devices (Err wanting) response = response ≡ bare 500

-- the shard ranges of a container: none where it isn't split
abbrev pub ranges_in : Option (List Range) → List Range
ranges_in None = []
ranges_in (Some ranges) = ranges

-- The reply to a read of how a container is split: only for the text of its ranges memory may be wanting yet. A container that isn't there has none, and
-- any other answer says that its keeper failed
abbrev pub IsShardsReply : Result Sharding ContAnswer → Response → Type 0
IsShardsReply (Ok sharding) response = (response ≡ text_reply (shards_text (ranges_in sharding.ranges))) ⊎ (response ≡ bare 500)
IsShardsReply (Err answers.Absent) response = (response ≡ text_reply []) ⊎ (response ≡ bare 500)
IsShardsReply (Err answers.NoMemory) response = response ≡ bare 500
IsShardsReply (Err answer) response = response ≡ bare 507

-- the reply to a pass: only for the text of what came of it memory may be wanting yet
abbrev pub IsPassReply : Result Outcome NoMemory → Response → Type 0
IsPassReply (Ok outcome) response = (response ≡ text_reply (outcome_text outcome)) ⊎ (response ≡ bare 500)
IsPassReply (Err wanting) response = response ≡ bare 500

module _ {V K : Type 0} (tells : V → Bool) (files : V → Folders) (faults : V → ℕ) (keeps : KeeperSeen K) where
  -- the files of a device were listed
  pub record IsFiled (device : ℕ) (w : AllNodes V K) (response : Response) (after : AllNodes V K) : Type 0 where
    pub listed : Result (List (List ℕ)) VolumeError
    pub moves : IsListed device (is_failed listed) (sight_of tells files faults keeps w) (sight_of tells files faults keeps after)
    pub calm : is_failed listed ≡ false → AreCalm tells files faults w.slots after.slots
    pub same : IsSameWorld w after
    pub paths : IfOk listed (ListsFiles tells files w device)
    pub reply : IsFilesReply listed response

  -- a device was lifted, and set down over the same volumes and keepers
  pub record IsRestarted (device : ℕ) (w after : AllNodes V K) : Type 0 where
    pub given : List (V × K)
    pub mid : AllNodes V K
    pub up : Lifts tells files faults keeps w device given mid
    pub down : SetsDown mid device given after

  -- A partition was pushed, and what came of it replied. A push that wanted memory was made as far as it came
  pub record IsReplicated (asked : Replication) (w : AllNodes V K) (response : Response) (after : AllNodes V K) : Type 0 where
    pub outcome : Result Outcome NoMemory
    pub pushed : IsPushedOver asked.from asked.to asked.part asked.acts (sight_of tells files faults keeps w) outcome (sight_of tells files faults keeps after)
    pub reply : IsPassReply outcome response

  -- The rows of a container were pushed, and what came of it replied. A push that wanted memory was made as far as it came
  pub record AreRowsPushed (ring : Ring) (asked : RowPush) (w : AllNodes V K) (response : Response) (after : AllNodes V K) : Type 0 where
    pub outcome : Result Outcome NoMemory
    pub pushed : AreRowsPushedOver ring asked.from asked.to asked.place asked.acts (sight_of tells files faults keeps w) outcome
        (sight_of tells files faults keeps after)
    pub reply : IsPassReply outcome response

  -- the records of a device were read, and told
  pub record ArePendingTold (ring : Ring) (device : ℕ) (w : AllNodes V K) (response : Response) (after : AllNodes V K) : Type 0 where
    pub got : Result (Result (Vec Filed Global) DirFault) NoMemory
    pub read : ArePending ring device (sight_of tells files faults keeps w) got (sight_of tells files faults keeps after)
    pub reply : IsPendingReply ring.devices got response

  -- The containers were updated by the records of a device, and what came of it replied. An update that wanted memory was made as far as it came
  pub record IsUpdated (ring : Ring) (asked : Update) (w : AllNodes V K) (response : Response) (after : AllNodes V K) : Type 0 where
    pub outcome : Result Outcome NoMemory
    pub updated : IsUpdateOver ring asked.device asked.acts (sight_of tells files faults keeps w) outcome (sight_of tells files faults keeps after)
    pub reply : IsPassReply outcome response

  -- The shards of a container were created, and what came of it replied. A creation that wanted memory was made as far as it came
  pub record AreShardsCreated (ring : Ring) (asked : ShardCreation) (w : AllNodes V K) (response : Response) (after : AllNodes V K) : Type 0 where
    pub outcome : Result Outcome NoMemory
    pub created : AreShardsCreatedOver ring asked.device asked.place asked.per_shard asked.time asked.acts (sight_of tells files faults keeps w) outcome
        (sight_of tells files faults keeps after)
    pub reply : IsPassReply outcome response

  -- The next range of a container was moved to its shard, and what came of it replied. A cleaving that wanted memory was made as far as it came
  pub record IsCleft (ring : Ring) (asked : Cleaving) (w : AllNodes V K) (response : Response) (after : AllNodes V K) : Type 0 where
    pub outcome : Result Outcome NoMemory
    pub cleft : IsCleftOver ring asked.device asked.place asked.acts (sight_of tells files faults keeps w) outcome (sight_of tells files faults keeps after)
    pub reply : IsPassReply outcome response

  -- how a container is split was read at a device, and its shard ranges told
  pub record AreShardsTold (asked : ShardsRead) (w : AllNodes V K) (response : Response) (after : AllNodes V K) : Type 0 where
    pub got : Result Sharding ContAnswer
    pub read : Calls (IsLooked Local asked.device asked.place sharding_of (λ got. Sharded asked.place got)) (sight_of tells files faults keeps w) Local
        (Ok got) (sight_of tells files faults keeps after)
    pub reply : IsShardsReply got response

  -- what a control request asks for was done
  abbrev pub IsControlDone : Ring → AllNodes V K → Control → Response → AllNodes V K → Type 0
  IsControlDone ring w controls.Trail response after = (after ≡ w) × (response ≡ text_reply (trail_text ring.devices w.lines))
  IsControlDone ring w (controls.Files device) response after = IsFiled device w response after
  IsControlDone ring w (controls.Pending device) response after = ArePendingTold ring device w response after
  IsControlDone ring w (controls.Restart device) response after = IsRestarted device w after × (response ≡ text_reply [])
  IsControlDone ring w (controls.Replicate asked) response after = IsReplicated asked w response after
  IsControlDone ring w (controls.PushRows asked) response after = AreRowsPushed ring asked w response after
  IsControlDone ring w (controls.Update asked) response after = IsUpdated ring asked w response after
  IsControlDone ring w (controls.CreateShards asked) response after = AreShardsCreated ring asked w response after
  IsControlDone ring w (controls.Cleave asked) response after = IsCleft ring asked w response after
  IsControlDone ring w (controls.Shards asked) response after = AreShardsTold asked w response after
  IsControlDone ring w controls.Refused response after = (after ≡ w) × (response ≡ bare 400)

  -- a control request was answered, or memory ran out before anything was done
  abbrev pub IsControlled : Ring → AllNodes V K → Request → Response → AllNodes V K → Type 0
  IsControlled ring w r response after =
      ((asked : Control) × IsControl ring r asked × IsControlDone ring w asked response after) ⊎ ((after ≡ w) × (response ≡ bare 500))

  -- ---- requests for objects

  -- The step that a request for an object asks for came, and what it was answered is replied. Or memory ran out: then no step came, or the one that the
  -- request asks for, which changed nothing
  abbrev pub IsServedAt : Ring → AllNodes V K → Request → ℕ → Response → AllNodes V K → Type 0
  IsServedAt ring w r moment response after =
      objects.IsAnswered (sight_of tells files faults keeps) w after ring r moment response
      ⊎ ((response ≡ bare 500) × objects.IsGivenUp (sight_of tells files faults keeps) w after ring r moment)

  -- ---- requests for replicas

  -- The reads that a request for replicas asks for were made, and what they told replied. Or memory ran out: then some first ones of them were
  -- made, or none
  abbrev pub IsCompared : Ring → AllNodes V K → Request → Response → AllNodes V K → Type 0
  IsCompared ring w r response after =
      replicas.IsAnswered (sight_of tells files faults keeps) w after ring r response
      ⊎ ((response ≡ bare 500) × replicas.IsGivenUp (sight_of tells files faults keeps) w after ring r)

  -- ---- requests for containers

  -- The steps that a request for containers asks for came, and what they were answered is replied. Or memory ran out: then no step came, or those
  -- that the request asks for, which changed nothing
  abbrev pub IsContained : Ring → AllNodes V K → Request → Response → AllNodes V K → Type 0
  IsContained ring w r response after =
      containers.IsAnswered (sight_of tells files faults keeps) w after ring r response
      ⊎ ((response ≡ bare 500) × containers.IsGivenUp (sight_of tells files faults keeps) w after ring r)

  -- ---- any request

  -- A reply that may be given: the right one, or want of memory; and what the world is then. Whatever machine it stood for goes on to it as it is then,
  -- by the lines that it kept of this request, and honestly: what is marked in a record was heard, and what is dropped looks at all devices of its container.
  pub record MayAnswer (ring : Ring) (w : AllNodes V K) (r : Request) (moment : ℕ) (response : Response) (after : AllNodes V K) : Type 0 where
    pub answers : MatchBool (is_control r.path) (IsControlled ring w r response after)
        (MatchBool (is_replication_of r) (IsCompared ring w r response after)
        (MatchBool (is_for_containers r) (IsContained ring w r response after) (IsServedAt ring w r moment response after)))
    pub nodes : (sight_of tells files faults keeps after).nodes ≡ (sight_of tells files faults keeps w).nodes
    pub runs : RunsHonestly ring.secrets (replicas_in ring) (sight_of tells files faults keeps w) (sight_of tells files faults keeps after)

  -- A restart was asked for, and the device lifted, but its volumes and keepers couldn't be started again: it stays out, and no request comes after it
  pub record MayHalt (ring : Ring) (w : AllNodes V K) (r : Request) (after : AllNodes V K) : Type 0 where
    pub control : is_control r.path ≡ true
    pub device : ℕ
    pub asked : IsControl ring r (controls.Restart device)
    pub given : List (V × K)
    pub up : Lifts tells files faults keeps w device given after
