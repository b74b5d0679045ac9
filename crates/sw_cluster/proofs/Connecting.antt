-- What a connection over a door leaves of its nodes, and how it follows from the session over its server.
use Rattle.std.proofs.Common.{◌≡◌, ℕ, Bool, true, false, List, [], ◌∷◌, Option, Some, All, MatchBool, refl, sym, ◌∙◌, ap, subst, inl}
use Rattle.std.proofs.Common.{inr, ◌⊎◌, MutBor, Result, Err}
use Rattle.std.specs.Bool.{⊤}
use Rattle.std.proofs.lemmas.List.Elements.{All-nil, All-cons}
use Rattle.sw_container_server.specs.Serving as containers
use Rattle.sw_container_server.specs.Targets.{is_for_containers}
use Rattle.sw_control.specs.Asking.{is_control}
use Rattle.sw_message.specs.declared.request.Request.{Request}
use Rattle.sw_message.specs.declared.response.Response.{Response}
use Rattle.sw_object_server.specs.Replies.{bare}
use Rattle.sw_object_server.specs.Serving as objects
use Rattle.sw_outside.specs.Readings.{TicksEach}
use Rattle.sw_peer.specs.Sights.{Sight}
use Rattle.sw_replica_server.specs.Serving as replicas
use Rattle.sw_replica_server.specs.Targets.{is_replication_of}
use Rattle.sw_ring.specs.declared.ring.Ring.{Ring}
use Rattle.sw_session.proofs.Mapping.{session-keeps}
use Rattle.sw_session.specs.Closing.{asks_to_close_of}
use Rattle.sw_session.specs.Session.{IsSession, OwnPuts, WaitsForMore}
use Rattle.sw_session.specs.declared.server.ServerFault.{ServerFault}
use Rattle.sw_session.specs.declared.session.SessionFault.{SessionFault}
use Rattle.sw_session.specs.declared.session.SessionFault.TheVariants as faults
use Rattle.sw_nodes.proofs.Comparing.{answered-keeps, given_up-keeps}
use Rattle.sw_nodes.proofs.Contained.{answered-keeps as contained-keeps, given_up-keeps as uncontained-keeps}
use Rattle.sw_nodes.proofs.Controlling.{on_true}
use Rattle.sw_nodes.proofs.Keeping.{Keeps, keeps-join, keeps-same}
use Rattle.sw_nodes.proofs.RunningLemmas.{answered_keeps, left_keeps}
use Rattle.sw_nodes.proofs.Serving.{on_false}
use Rattle.sw_nodes.specs.Nodes.{AreNodesOf}
use Rattle.sw_cluster.specs.Connections.{DoorAnswers, IsConnection, NeverHalts}
use Rattle.sw_cluster.proofs.Mapped.{ends-mapped}
use Rattle.sw_cluster.specs.Ending.{ReadsInTurn, status_by}
use Rattle.sw_cluster.specs.Told.{Input, Output, read_of, written_of}
use Rattle.sw_cluster.specs.declared.connection.DoorServer.{DoorServer}

abbrev pub ring_in : {D : Type 0} → DoorServer D → Ring
ring_in s = s.ring.now

abbrev pub door_in : {D : Type 0} → DoorServer D → MutBor D
door_in s = s.door

-- a clock that stands still gives one reading each time
pub still-each : (now : ℕ) (readings : List ℕ) (after : Option (List ℕ)) → TicksEach (Some (now ∷ [])) after readings → All (λ m. m ≡ now) readings
still-each now [] after ticks = All-nil (λ (m : ℕ). m ≡ now)
still-each now (reading ∷ readings) after ticks =
    All-cons (λ (m : ℕ). m ≡ now) reading readings ticks.1.0
    (still-each now readings after (subst (λ (o : Option (List ℕ)). TicksEach o after readings) ticks.1.1 ticks.2))

module _ {D : Type 0} (sight : D → Sight) (ring : Ring) where
  -- ---- one request

  module _ (old new : D) (r : Request) (moment : ℕ) (response : Response) where
    -- what every answer keeps of the nodes
    pub answers-keeps : DoorAnswers sight ring old r moment response new → Keeps (sight old) (sight new)
    answers-keeps answers = by (is_control r.path) (is_replication_of r) (is_for_containers r) answers
      where
        by : (control replication for_containers : Bool) → MatchBool control ((new ≡ old) × ((response ≡ bare 404) ⊎ (response ≡ bare 500)))
            (MatchBool replication
            (replicas.IsAnswered sight old new ring r response ⊎ ((response ≡ bare 500) × replicas.IsGivenUp sight old new ring r))
            (MatchBool for_containers
            (containers.IsAnswered sight old new ring r response ⊎ ((response ≡ bare 500) × containers.IsGivenUp sight old new ring r))
            (objects.IsAnswered sight old new ring r moment response ⊎ ((response ≡ bare 500) × objects.IsGivenUp sight old new ring r moment))))
            → Keeps (sight old) (sight new)
        by true replication for_containers same = keeps-same (sight old) (sight new) (ap sight same.0)
        by false true for_containers (inl answered) = answered-keeps sight ring r old new response answered
        by false true for_containers (inr left) = given_up-keeps sight ring r old new left.1
        by false false true (inl answered) = contained-keeps sight ring r old new response answered
        by false false true (inr left) = uncontained-keeps sight ring r old new left.1
        by false false false (inl answered) = answered_keeps sight ring old new r moment response answered
        by false false false (inr left) = left_keeps sight ring old new r moment left.1

    pub answers-replicas : is_control r.path ≡ false → is_replication_of r ≡ true
        → replicas.IsAnswered sight old new ring r response ⊎ ((response ≡ bare 500) × replicas.IsGivenUp sight old new ring r)
        → DoorAnswers sight ring old r moment response new
    answers-replicas nodes is said = on_false _ _ (is_control r.path) nodes (on_true _ _ (is_replication_of r) is said)

    pub answers-containers : is_control r.path ≡ false → is_replication_of r ≡ false → is_for_containers r ≡ true
        → containers.IsAnswered sight old new ring r response ⊎ ((response ≡ bare 500) × containers.IsGivenUp sight old new ring r)
        → DoorAnswers sight ring old r moment response new
    answers-containers nodes other is said =
        on_false _ _ (is_control r.path) nodes (on_false _ _ (is_replication_of r) other (on_true _ _ (is_for_containers r) is said))

    pub answers-objects : is_control r.path ≡ false → is_replication_of r ≡ false → is_for_containers r ≡ false
        → objects.IsAnswered sight old new ring r moment response ⊎ ((response ≡ bare 500) × objects.IsGivenUp sight old new ring r moment)
        → DoorAnswers sight ring old r moment response new
    answers-objects nodes other is said =
        on_false _ _ (is_control r.path) nodes (on_false _ _ (is_replication_of r) other (on_false _ _ (is_for_containers r) is said))

  module _ (d : D) (r : Request) (moment : ℕ) (response : Response) where
    pub not-found : is_control r.path ≡ true → response ≡ bare 404 → DoorAnswers sight ring d r moment response d
    not-found is reply = on_true _ _ (is_control r.path) is (refl, inl reply)

    -- it was answered by want of memory before anything was done with it
    pub unanswered : response ≡ bare 500 → DoorAnswers sight ring d r moment response d
    unanswered reply = by (is_control r.path) (is_replication_of r) (is_for_containers r)
      where
        by : (control replication for_containers : Bool) → MatchBool control ((d ≡ d) × ((response ≡ bare 404) ⊎ (response ≡ bare 500)))
            (MatchBool replication
            (replicas.IsAnswered sight d d ring r response ⊎ ((response ≡ bare 500) × replicas.IsGivenUp sight d d ring r))
            (MatchBool for_containers
            (containers.IsAnswered sight d d ring r response ⊎ ((response ≡ bare 500) × containers.IsGivenUp sight d d ring r))
            (objects.IsAnswered sight d d ring r moment response ⊎ ((response ≡ bare 500) × objects.IsGivenUp sight d d ring r moment))))
        by true replication for_containers = (refl, inr reply)
        by false true for_containers = inr (reply, inl refl)
        by false false true = inr (reply, inl refl)
        by false false false = inr (reply, inl refl)

  pub ready-on : (old new : D) (r : Request) (moment : ℕ) (response : Response) → AreNodesOf ring (sight old).nodes
      → DoorAnswers sight ring old r moment response new → AreNodesOf ring (sight new).nodes
  ready-on old new r moment response ready answers = subst (AreNodesOf ring) (sym (answers-keeps old new r moment response answers).nodes) ready

  -- ---- a connection

  module _ (P : D → Type 0) (keeps : (old : D) (r : Request) (moment : ℕ) (response : Response) (new : D) → P old
      → DoorAnswers sight ring old r moment response new → P new) where
    -- what each reply keeps of the door, a connection keeps
    pub connection-keeps : (moment : ℕ) (old : D) (source : Input) (sink : Output) (new : D) (status : ℕ) → P old
        → IsConnection sight ring moment old source sink new status → P new
    connection-keeps moment old source sink new status p c =
        session-keeps asks_to_close_of (DoorAnswers sight ring) NeverHalts P keeps (λ before r m fault after q halt. absurd halt)
        old (read_of source) (written_of sink) c.moments new c.ends.ended p c.ends.session

  -- so the nodes are those that were there, and whatever machine they stood for goes on to them as they are then
  pub connection-goes : (moment : ℕ) (old : D) (source : Input) (sink : Output) (new : D) (status : ℕ)
      → IsConnection sight ring moment old source sink new status → Keeps (sight old) (sight new)
  connection-goes moment old source sink new status c =
      connection-keeps (λ (d : D). Keeps (sight old) (sight d))
      (λ before r m response after so_far answers.
      keeps-join (sight old) (sight before) (sight after) so_far (answers-keeps before after r m response answers))
      moment old source sink new status (keeps-same (sight old) (sight old) refl) c

  -- the session over a server that has a ring and a door
  module _ {N : Type 0} (ring_of : N → Ring) (door_of : N → MutBor D) where
    abbrev pub ServesBy : N → Request → ℕ → Response → N → Type 0
    ServesBy old r moment response new = (ring_of new ≡ ring_of old) × ((door_of new).ghost_name ≡ (door_of old).ghost_name)
        × DoorAnswers sight (ring_of old) (door_of old).now r moment response (door_of new).now

    abbrev pub HaltsBy : N → Request → ℕ → ServerFault → N → Type 0
    HaltsBy old r moment fault new = NeverHalts (door_of old).now r moment fault (door_of new).now

    module _ (start : N) (source : Input) (sink : Output) (moments : List ℕ) (after : N) (result : Result ⊤ SessionFault) (same : ring_of start ≡ ring)
        (session : IsSession asks_to_close_of ServesBy HaltsBy start (read_of source) (written_of sink) moments after result) where
      abbrev IsOurs : N → Type 0
      IsOurs n = (ring_of n ≡ ring) × ((door_of n).ghost_name ≡ (door_of start).ghost_name)

      ours-on : (old : N) (r : Request) (moment : ℕ) (response : Response) (new : N) → IsOurs old → ServesBy old r moment response new → IsOurs new
      ours-on old r moment response new p answer = (answer.0 ∙ p.0, answer.1 ∙ p.1)

      pub same-door : (door_of after).ghost_name ≡ (door_of start).ghost_name
      same-door = (session-keeps asks_to_close_of ServesBy HaltsBy IsOurs ours-on (λ before r m fault then p halt. absurd halt)
          start (read_of source) (written_of sink) moments after result (same, refl) session).1

      pub connection-of : (moment status : ℕ) → All (λ m. m ≡ moment) moments → status ≡ status_by result
          → OwnPuts asks_to_close_of ServesBy HaltsBy start after source.before sink.before sink.now moments sink.calls sink.calls_now result
          → ReadsInTurn asks_to_close_of ServesBy start moments source
          → (result ≡ Err faults.ReadFault
          → WaitsForMore asks_to_close_of ServesBy start after source.before source.now sink.before sink.now moments sink.calls sink.calls_now)
          → IsConnection sight ring moment (door_of start).now source sink (door_of after).now status
      connection-of moment status still status_is puts reads waits = record {
        moments = moments;
        still = still;
        ends = ends-mapped asks_to_close_of ServesBy HaltsBy IsOurs ours-on (DoorAnswers sight ring) NeverHalts (λ (n : N). (door_of n).now)
            (λ old r m response new p answer.
            subst (λ (x : Ring). DoorAnswers sight x (door_of old).now r m response (door_of new).now) p.0 answer.2)
            (λ old r m fault new p halt. halt) start source sink moments after result status (same, refl) status_is session puts reads waits;
      }
