-- What is answered on a connection over a door. (HTTP/1.1, RFC 9112, as to where a connection ends; the rest is this project's own.)
use Rattle.std.specs.Prelude.{◌≡◌, ℕ, List, All, MatchBool, ◌⊎◌}
use Rattle.sw_container_server.specs.Serving as containers
use Rattle.sw_container_server.specs.Targets.{is_for_containers}
use Rattle.sw_control.specs.Asking.{is_control}
use Rattle.sw_message.specs.declared.request.Request.{Request}
use Rattle.sw_message.specs.declared.response.Response.{Response}
use Rattle.sw_object_server.specs.Replies.{bare}
use Rattle.sw_object_server.specs.Serving as objects
use Rattle.sw_peer.specs.Sights.{Sight}
use Rattle.sw_replica_server.specs.Serving as replicas
use Rattle.sw_replica_server.specs.Targets.{is_replication_of}
use Rattle.sw_ring.specs.declared.ring.Ring.{Ring}
use Rattle.sw_session.specs.Closing.{asks_to_close_of}
use Rattle.sw_session.specs.declared.server.ServerFault.{ServerFault}
use Rattle.sw_cluster.specs.Ending.{Ends}
use Rattle.sw_cluster.specs.Told.{Input, Output}

-- the nodes behind a door can always go on
abbrev pub NeverHalts : {D : Type 0} → D → Request → ℕ → ServerFault → D → Type 0
NeverHalts old request moment fault new = ⊥

module _ {D : Type 0} (sight : D → Sight) where
  -- A reply that may be given to a request: the right one, or want of memory. What asks the program itself for something is not found
  abbrev pub DoorAnswers : Ring → D → Request → ℕ → Response → D → Type 0
  DoorAnswers ring old r moment response new =
      MatchBool (is_control r.path) ((new ≡ old) × ((response ≡ bare 404) ⊎ (response ≡ bare 500)))
      (MatchBool (is_replication_of r)
      (replicas.IsAnswered sight old new ring r response ⊎ ((response ≡ bare 500) × replicas.IsGivenUp sight old new ring r))
      (MatchBool (is_for_containers r)
      (containers.IsAnswered sight old new ring r response ⊎ ((response ≡ bare 500) × containers.IsGivenUp sight old new ring r))
      (objects.IsAnswered sight old new ring r moment response ⊎ ((response ≡ bare 500) × objects.IsGivenUp sight old new ring r moment))))

  -- One connection, at one moment: each request is answered by what the nodes are after those before it, to the end of what its client sends, or
  -- to the first request that asks to close. The status tells how it ended. Nothing is read behind that request, and nothing while another waits for its
  -- reply; and its client is told nothing but replies, to go on where it waits for that, and that a rest is refused
  pub record IsConnection (ring : Ring) (moment : ℕ) (old : D) (source : Input) (sink : Output) (new : D) (status : ℕ) : Type 0 where
    pub moments : List ℕ
    pub still : All (λ m. m ≡ moment) moments
    pub ends : Ends asks_to_close_of (DoorAnswers ring) NeverHalts old source sink moments new status
