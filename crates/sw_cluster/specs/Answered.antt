-- Which requests were answered, in a session or on connections that were served, and that what their replies say of writes is borne out by what rests in
-- the stores at the end. (This project's own.)
use Rattle.std.specs.Prelude.{◌≡◌, ⊤, ℕ, ◌*◌, ◌^◌, ◌<◌, Bool, true, false, List, [], ◌∷◌, ◌++◌, length, All, Option, Some, Result, Ok, Err, ◌⊎◌}
use Rattle.std.proofs.Common.{inl, inr}
use Rattle.std.specs.Io.KnownBytes.{IsAtEnd}
use Rattle.sw_container_server.specs.Asking as container_asking
use Rattle.sw_container_server.specs.Targets.{is_for_containers}
use Rattle.sw_container_server.specs.declared.asked.ContAsked.TheVariants as container_asks
use Rattle.sw_container_steps.specs.declared.cont_change.ContChange.{ContChange}
use Rattle.sw_control.specs.Asking.{is_control}
use Rattle.sw_core.specs.Worlds.{AllNodes, KeeperSeen, lock_of, opened, place_lock, sight_of, stripe_at}
use Rattle.sw_core.specs.declared.trail.Trail.{Trail}
use Rattle.sw_hashdir.specs.Places.{holds}
use Rattle.sw_hashpath.specs.HashParts.{partition_of}
use Rattle.sw_hashpath.specs.declared.name.Name.{Name}
use Rattle.sw_hashpath.specs.declared.place.Place.{Place}
use Rattle.sw_http.specs.Request.{request_of}
use Rattle.sw_message.specs.declared.request.Request.{Request}
use Rattle.sw_message.specs.declared.response.Response.{Response}
use Rattle.sw_nodes.specs.Server.{MayAnswer, MayHalt}
use Rattle.sw_object_server.specs.Asking as object_asking
use Rattle.sw_object_server.specs.declared.asked.Asked.TheVariants as object_asks
use Rattle.sw_object_steps.specs.Steps.{write_of}
use Rattle.sw_object_steps.specs.declared.change.Change.{Change}
use Rattle.sw_quiet.specs.Quiet.{quiet_sight_of}
use Rattle.sw_replica_server.specs.Targets.{is_replication_of}
use Rattle.sw_reply_laws.specs.Containers.{TablesBearOut}
use Rattle.sw_reply_laws.specs.Objects.{BearsOut}
use Rattle.sw_ring.specs.declared.ring.Ring.{Ring}
use Rattle.sw_session.specs.Closing.{asks_to_close_of}
use Rattle.sw_session.specs.Passages.{Passage}
use Rattle.sw_session.specs.Replies.{Halts, Replies, Serves}
use Rattle.sw_session.specs.Session.{Broken, Closed, Complete, HaltedAt, IsSession, SoFar}
use Rattle.sw_session.specs.declared.server.ServerFault.TheVariants as servers
use Rattle.sw_session.specs.declared.session.SessionFault.{SessionFault}
use Rattle.sw_session.specs.declared.session.SessionFault.TheVariants as faults
use Rattle.sw_volume.specs.Tree.{Folders}
use Rattle.sw_volume.specs.Volume.{raised_by}
use Rattle.sw_cluster.specs.Connections.{DoorAnswers, NeverHalts}
use Rattle.sw_cluster.specs.Ending.{IsRun}
use Rattle.sw_cluster.specs.Limits.{run_bytes, serve_bytes}
use Rattle.sw_cluster.specs.Rounds.{EndsConnections, EndsServing, IsServing, Round, ServesAll, ServesOne, StopsRestarting, StopsWaiting, read_in, written_in}
use Rattle.sw_cluster.specs.Told.{Counts, DoorsTold, Input, Output, read_of, written_of}
use Rattle.sw_cluster.specs.declared.rounds.ServeFault.{ServeFault}
use Rattle.sw_cluster.specs.declared.rounds.ServeFault.TheVariants as serve_faults

-- a request that was answered, its reply, and what the server was
pub record Answered (S : Type 0) : Type 0 where
  pub request : Request
  pub response : Response
  pub before : S  -- as the request came
  pub after : S  -- behind its reply

-- ---- those of a session, as what is said of it tells them

module _ {S : Type 0} (last : Request → Bool) (may : Serves S) (halts : Halts S) where
  abbrev pub replied_in : (start : S) (requests : List Request) (moments text : List ℕ) (after : S) → Replies may start requests moments text after
      → List (Answered S)
  replied_in start [] moments text after replies = []
  replied_in start (request ∷ requests) moments text after replies =
      record { request = request; response = replies.0; before = start; after = replies.1 }
      ∷ replied_in replies.1 requests replies.3 replies.4 after replies.8

  -- its first ones
  abbrev pub so_far : (start : S) (input rest taken now : Option (List ℕ)) (moments : List ℕ) (after : S)
      → SoFar last may start input rest taken now moments after → List (Answered S)
  so_far start input rest taken now moments after done = replied_in start done.requests moments done.text after done.replied

  -- all of them, or those up to a last one
  abbrev pub well : (start : S) (source sink : Passage) (moments : List ℕ) (after : S)
      → (Complete last may start source.before sink.before sink.now moments after × IsAtEnd source.now)
      ⊎ Closed last may start source.before sink.before sink.now moments after → List (Answered S)
  well start source sink moments after (inl complete) =
      so_far start source.before complete.0.rest sink.before sink.now moments after complete.0.done
  well start source sink moments after (inr closed) =
      so_far start source.before closed.rest sink.before closed.mid closed.earlier closed.then closed.done
      ++ record { request = request_of closed.end.0.turn.parts; response = closed.end.0.response; before = closed.then; after = after } ∷ []

  -- some, of which the last one's reply may have been written in part
  abbrev pub broken : (start : S) (input taken now : Option (List ℕ)) (moments : List ℕ) (after : S)
      → Broken last may start input taken now moments after → List (Answered S)
  broken start input taken now moments after (inl between) = so_far start input between.rest taken between.mid moments after between.done
  broken start input taken now moments after (inr one) =
      so_far start input one.rest taken one.mid one.earlier one.then one.done
      ++ record { request = request_of one.end.turn.parts; response = one.end.response; before = one.then; after = after } ∷ []

  -- those before one at which memory ran out
  abbrev pub wanting : (start : S) (source sink : Passage) (moments : List ℕ) (after : S)
      → Broken last may start source.before sink.before sink.now moments after
      ⊎ HaltedAt last may halts start source.before sink.before sink.now moments after servers.NoMemory → List (Answered S)
  wanting start source sink moments after (inl ends) = broken start source.before sink.before sink.now moments after ends
  wanting start source sink moments after (inr halted) =
      so_far start source.before halted.rest sink.before halted.mid halted.earlier halted.then halted.done

  abbrev pub answered_in : (start : S) (source sink : Passage) (moments : List ℕ) (after : S) (result : Result ⊤ SessionFault)
      → IsSession last may halts start source sink moments after result → List (Answered S)
  answered_in start source sink moments after (Ok _) session = well start source sink moments after session.0
  answered_in start source sink moments after (Err faults.ReadFault) session =
      so_far start source.before session.0.rest sink.before session.0.mid moments after session.0.done
  answered_in start source sink moments after (Err faults.WriteFault) session =
      broken start source.before sink.before sink.now moments after session.0
  answered_in start source sink moments after (Err faults.TooLong) session =
      so_far start source.before session.0.rest sink.before sink.now moments after session.0.done
  answered_in start source sink moments after (Err faults.BadInput) session =
      so_far start source.before session.0.rest sink.before session.0.mid moments after session.0.done
  answered_in start source sink moments after (Err faults.ServerFault) session =
      so_far start source.before session.0.rest sink.before session.0.mid session.0.earlier session.0.then session.0.done
  answered_in start source sink moments after (Err faults.NoMemory) session = wanting start source sink moments after session.0

module _ {V K : Type 0} (tells : V → Bool) (files : V → Folders) (faults : V → ℕ) (keeps : KeeperSeen K) (ring : Ring) where
  -- ---- those of all connections, in their order

  abbrev pub answered_one : (w : AllNodes V K) (r : Round) (after : AllNodes V K) → ServesOne tells files faults keeps ring w r after
      → List (Answered (AllNodes V K))
  answered_one w r after one =
      answered_in asks_to_close_of (DoorAnswers (quiet_sight_of tells files faults keeps) ring) NeverHalts w (read_of (read_in r))
      (written_of (written_in r)) one.answered.moments after one.answered.ends.ended one.answered.ends.session

  abbrev pub answered_all : (w : AllNodes V K) (rounds : List Round) (after : AllNodes V K) → ServesAll tells files faults keeps ring w rounds after
      → List (Answered (AllNodes V K))
  answered_all w [] after serves = []
  answered_all w (r ∷ rounds) after serves = answered_one w r serves.0 serves.2 ++ answered_all serves.1 rounds after serves.4

  module _ (connections : ℕ) (began after : AllNodes V K) (doors doors_now : DoorsTold) (clock clock_now : Option (List ℕ)) (stores stores_now : Counts)
    where
      abbrev pub before_waiting : StopsWaiting tells files faults keeps ring connections began after doors doors_now clock clock_now stores stores_now
          → List (Answered (AllNodes V K))
      before_waiting waits = answered_all began waits.rounds after waits.serves

      abbrev pub before_restarting : StopsRestarting tells files faults keeps ring connections began after doors doors_now clock clock_now stores stores_now
          → List (Answered (AllNodes V K))
      before_restarting stops =
          answered_all began stops.rounds stops.then stops.serves ++ answered_one stops.then stops.last stops.served stops.one

      abbrev pub before_wanting : StopsWaiting tells files faults keeps ring connections began after doors doors_now clock clock_now stores stores_now
          ⊎ StopsRestarting tells files faults keeps ring connections began after doors doors_now clock clock_now stores stores_now
          → List (Answered (AllNodes V K))
      before_wanting (inl waits) = before_waiting waits
      before_wanting (inr stops) = before_restarting stops

      abbrev pub answered_by : (came : Result ⊤ ServeFault)
          → EndsConnections tells files faults keeps ring connections began after doors doors_now clock clock_now stores stores_now came
          → List (Answered (AllNodes V K))
      answered_by (Ok _) all = answered_all began all.rounds after all.serves
      answered_by (Err serve_faults.Door) ends = before_waiting ends.0
      answered_by (Err serve_faults.Store) ends = before_restarting ends.0
      answered_by (Err serve_faults.NoMemory) ends = before_wanting ends.0
      answered_by (Err serve_faults.Write) ends = []

  -- where it couldn't be said that the port is open, there are none
  abbrev pub answered_to : (port connections : ℕ) (began after : AllNodes V K) (doors doors_now : DoorsTold) (out : Output)
      (clock clock_now : Option (List ℕ)) (stores stores_now : Counts) (ended : Result ⊤ ServeFault)
      → EndsServing tells files faults keeps ring port connections began after doors doors_now out clock clock_now stores stores_now ended
      → List (Answered (AllNodes V K))
  answered_to port connections began after doors doors_now out clock clock_now stores stores_now ended (inl mute) = []
  answered_to port connections began after doors doors_now out clock clock_now stores stores_now ended (inr over) =
      answered_by connections began after doors doors_now clock clock_now stores stores_now over.came over.served

  -- ---- what rests at the end

  -- A request for an object that asks for this change, of whose lock the contents were told as the nodes began: the files that rest at its place stand for
  -- what bears out its reply
  abbrev pub ObjectReplyStands : AllNodes V K → (ℕ → ℕ → Option (V × K)) → Answered (AllNodes V K) → Type 0
  ObjectReplyStands began rests a = (device : ℕ) (name : Name) (change : Change) → device < length ring.devices → is_for_containers a.request ≡ false
      → object_asking.IsAsked ring a.request (object_asks.Change device name change)
      → ((sight_of tells files faults keeps began).objects.seen (lock_of ring.lock_bits ring.power device name.hash)).told ≡ true
      → (part : V × K) × (rests device (stripe_at ring.lock_bits ring.power (partition_of name.hash ring.power)) ≡ Some part)
      × BearsOut a.response (write_of change) (holds ring.secrets ring.power (files part.0) name.hash)

  -- and so do the tables of the keeper that rests there, to a request for a container
  abbrev pub ContainerReplyStands : AllNodes V K → (ℕ → ℕ → Option (V × K)) → Answered (AllNodes V K) → Type 0
  ContainerReplyStands began rests a = (device : ℕ) (place : Place) (change : ContChange) → device < length ring.devices
      → is_for_containers a.request ≡ true
      → container_asking.IsAsked ring a.request (container_asks.Change device place change)
      → ((sight_of tells files faults keeps began).containers.seen (place_lock ring.lock_bits ring.power device place)).told ≡ true
      → (part : V × K) × (rests device (stripe_at ring.lock_bits ring.power (partition_of place.hash ring.power)) ≡ Some part)
      × TablesBearOut a.response change (keeps.holds part.1 place)

  -- Control requests are the program's own, and those for replicas write nothing
  pub record ReplyStands (began : AllNodes V K) (rests : ℕ → ℕ → Option (V × K)) (a : Answered (AllNodes V K)) : Type 0 where
    pub object : is_control a.request.path ≡ false → is_replication_of a.request ≡ false → ObjectReplyStands began rests a
    pub container : is_control a.request.path ≡ false → is_replication_of a.request ≡ false → ContainerReplyStands began rests a

  -- every reply that was given while connections were served is borne out by what rests at the end, whatever came between them
  abbrev pub AnswersStand : (V × K → Type 0) → Type 0
  AnswersStand first = (port connections : ℕ) (rests rests_now : ℕ → ℕ → Option (V × K)) (doors doors_now : DoorsTold) (out : Output)
      (clock clock_now : Option (List ℕ)) (stores stores_now : Counts) (status : ℕ)
      (serving : IsServing tells files faults keeps ring first port connections rests rests_now doors doors_now out clock clock_now stores stores_now status)
      → All (ReplyStands (opened serve_bytes ring serving.parts) rests_now)
      (answered_to port connections (opened serve_bytes ring serving.parts) serving.over.after doors doors_now out clock clock_now
      (record stores { calls = raised_by (length ring.devices * 2 ^ ring.lock_bits) stores.calls }) stores_now serving.over.ended serving.over.ends)

  -- and so is every reply of a session
  abbrev pub SessionAnswersStand : (V × K → Type 0) → Type 0
  SessionAnswersStand first = (rests rests_now : ℕ → ℕ → Option (V × K)) (stores stores_now : Counts) (source : Input) (sink : Output)
      (clock clock_now : Option (List ℕ)) (trail : Trail) (status : ℕ)
      (run : IsRun tells files faults keeps first ring rests rests_now stores stores_now source sink clock clock_now trail status)
      → All (ReplyStands (opened run_bytes ring run.parts) rests_now)
      (answered_in (λ request. false) (MayAnswer tells files faults keeps ring) (λ w r moment fault. MayHalt tells files faults keeps ring w r)
      (opened run_bytes ring run.parts) (read_of source) (written_of sink) trail.moments run.over.after run.over.ends.ended run.over.ends.session)
