-- Every reply that was given while connections were served is borne out by what rests at the end: what the nodes were behind it goes on to the end, and what
-- stands only grows.
use Rattle.std.proofs.Common.{◌≡◌, ℕ, ◌<◌, Bool, true, false, List, ◌++◌, length, Option, ◌⊎◌, inl, inr}
use Rattle.std.proofs.Common.{refl, sym, ◌∙◌, ap, subst, arith, MatchBool}
use Rattle.std.specs.List.{All}
use Rattle.sw_container_server.specs.Asking as container_asking
use Rattle.sw_container_server.specs.Laws.{AsksForOne as AsksForOneContainer}
use Rattle.sw_container_server.specs.Serving as containers
use Rattle.sw_container_server.specs.Targets.{is_for_containers}
use Rattle.sw_container_server.specs.declared.asked.ContAsked.{ContAsked}
use Rattle.sw_container_server.specs.declared.asked.ContAsked.TheVariants as container_asks
use Rattle.sw_container_steps.specs.Halves.{ContHalf}
use Rattle.sw_container_steps.specs.declared.cont_change.ContChange.{ContChange}
use Rattle.sw_control.specs.Asking.{is_control}
use Rattle.sw_core.specs.Worlds.{AllNodes, KeeperSeen, nodes_of, opened}
use Rattle.sw_hashdir.specs.Places.{holds}
use Rattle.sw_hashpath.specs.declared.name.Name.{Name}
use Rattle.sw_hashpath.specs.declared.place.Place.{Place}
use Rattle.sw_keeper.specs.declared.tables.Tables.{Tables}
use Rattle.sw_machine.proofs.Runs.{hashes-stand, rows-are-merged}
use Rattle.sw_machine.specs.Doors.{StandsFor}
use Rattle.sw_machine.specs.Laws.{HashesGoOn}
use Rattle.sw_machine.specs.Machine.{KnownWrite, machine_of, writes_among}
use Rattle.sw_message.specs.declared.request.Request.{Request}
use Rattle.sw_message.specs.declared.response.Response.{Response}
use Rattle.sw_nodes.proofs.Asking.{asks-for-write}
use Rattle.sw_object_server.specs.Asking as object_asking
use Rattle.sw_object_server.specs.Laws.{AsksForOne}
use Rattle.sw_object_server.specs.Replies.{bare}
use Rattle.sw_object_server.specs.Serving as objects
use Rattle.sw_object_server.specs.declared.asked.Asked.{Asked}
use Rattle.sw_object_server.specs.declared.asked.Asked.TheVariants as object_asks
use Rattle.sw_object_steps.specs.Halves.{ObjHalf}
use Rattle.sw_object_steps.specs.Steps.{write_of}
use Rattle.sw_object_steps.specs.declared.change.Change.{Change}
use Rattle.sw_peer.specs.Sights.{Nodes, Sight, cont_lock}
use Rattle.sw_quiet.specs.Quiet.{quiet_sight_of}
use Rattle.sw_replica_server.specs.Serving as replicas
use Rattle.sw_replica_server.specs.Targets.{is_replication_of}
use Rattle.sw_reply_laws.proofs.Changing.{changes-stand, silent as silent-change}
use Rattle.sw_reply_laws.proofs.Making.{silent, writes-stand}
use Rattle.sw_reply_laws.proofs.Running.{changes-stand-on, writes-stand-on}
use Rattle.sw_reply_laws.specs.Containers.{TablesBearOut}
use Rattle.sw_reply_laws.specs.Objects.{BearsOut}
use Rattle.sw_ring.specs.declared.ring.Ring.{Ring}
use Rattle.sw_state.specs.States.{state_of, writes_of}
use Rattle.sw_state.specs.declared.state.State.{State}
use Rattle.sw_volume.specs.Tree.{Folders}
use Rattle.sw_cluster.proofs.Found.{IsFound}
use Rattle.sw_cluster.proofs.FoundServing.{all-answers-found, answer-goes}
use Rattle.sw_cluster.proofs.Served.{Goes}
use Rattle.sw_cluster.specs.Answered.{Answered, AnswersStand, ContainerReplyStands, ObjectReplyStands, ReplyStands}
use Rattle.sw_cluster.specs.Connections.{DoorAnswers}
use Rattle.sw_cluster.specs.Limits.{serve_bytes}
use Rattle.sw_cluster.specs.Rounds.{HasServed}

-- a reply of want of memory tells nothing of a write
pub wanting-object : (response : Response) (change : Change) (s : State) → response ≡ bare 500 → BearsOut response (write_of change) s
wanting-object response change s is =
    subst (λ (r : Response). BearsOut r (write_of change) s) (sym is) (silent (bare 500) (write_of change) s refl (λ late. omega (arith, late)))

pub wanting-container : (response : Response) (change : ContChange) (t : Option Tables) → response ≡ bare 500 → TablesBearOut response change t
wanting-container response change t is =
    subst (λ (r : Response). TablesBearOut r change t) (sym is) (silent-change (bare 500) change t refl (λ late. omega (arith, late)))

module _ {V K : Type 0} (tells : V → Bool) (files : V → Folders) (faults : V → ℕ) (keeps : KeeperSeen K) (ring : Ring) (one-object-asked : AsksForOne)
    (one-container-asked : AsksForOneContainer) where
  abbrev see : AllNodes V K → Sight
  see w = quiet_sight_of tells files faults keeps w

  abbrev Going : AllNodes V K → AllNodes V K → Type 0
  Going w after = Goes tells files faults keeps ring w after

  abbrev May : AllNodes V K → Request → ℕ → Response → AllNodes V K → Type 0
  May w r moment response after = DoorAnswers see ring w r moment response after

  went-by : (a : Answered (AllNodes V K)) (moment : ℕ) → May a.before a.request moment a.response a.after → Going a.before a.after
  went-by a moment may = answer-goes tells files faults keeps ring a.before a.after a.request moment a.response may

  abbrev IsFoundIn : AllNodes V K → AllNodes V K → Answered (AllNodes V K) → Type 0
  IsFoundIn start after a = IsFound May Going Going start after a

  -- ---- what an answer leaves

  abbrev TellsObject : AllNodes V K → ℕ → Name → Type 0
  TellsObject w device name = ((see w).objects.seen ((see w).nodes.lock device name.hash)).told ≡ true

  abbrev TellsContainer : AllNodes V K → ℕ → Place → Type 0
  TellsContainer w device place = ((see w).containers.seen (cont_lock (see w).nodes device place)).told ≡ true

  abbrev begins : (w : AllNodes V K) → StandsFor (see w) (machine_of (see w))
  begins w = record { objects = refl; containers = refl }

  object-told : (w after : AllNodes V K) → Going w after → (device : ℕ) (name : Name) → TellsObject w device name → TellsObject after device name
  object-told w after goes device name told =
      let went = goes.runs (machine_of (see w)) (begins w) in
      let stands = (hashes-stand (see w).nodes (machine_of (see w)) went.0 went.2.after went.2.run).hash device name.hash told in
      subst (λ (n : Nodes). ((see after).objects.seen (n.lock device name.hash)).told ≡ true) (sym goes.nodes)
      (subst (λ (h : ObjHalf). (h.seen ((see w).nodes.lock device name.hash)).told ≡ true) (sym went.2.stands.objects) stands.told)

  container-told : (w after : AllNodes V K) → Going w after → (device : ℕ) (place : Place) → TellsContainer w device place
      → TellsContainer after device place
  container-told w after goes device place told =
      let went = goes.runs (machine_of (see w)) (begins w) in
      let stands = (rows-are-merged (see w).nodes (machine_of (see w)) went.0 went.2.after went.2.run).place device place told in
      subst (λ (n : Nodes). ((see after).containers.seen (cont_lock n device place)).told ≡ true) (sym goes.nodes)
      (subst (λ (h : ContHalf). (h.seen (cont_lock (see w).nodes device place)).told ≡ true) (sym went.2.stands.containers) stands.told)

  module _ (old new : AllNodes V K) (r : Request) (moment : ℕ) (response : Response) (may : May old r moment response new)
      (no_control : is_control r.path ≡ false) (no_replica : is_replication_of r ≡ false) where
    object-then : (device : ℕ) (name : Name) (change : Change) → is_for_containers r ≡ false
        → object_asking.IsAsked ring r (object_asks.Change device name change) → TellsObject old device name
        → BearsOut response (write_of change) ((see new).objects.holds device name.hash).state
    object-then device name change for_objects asked told =
        by (is_control r.path) (is_replication_of r) (is_for_containers r) no_control no_replica for_objects may
      where
        stood : State
        stood = ((see new).objects.holds device name.hash).state

        served : (given : Asked) → given ≡ object_asks.Change device name change → objects.IsServed see old new moment given response
            → BearsOut response (write_of change) stood
        served given is done =
            writes-stand (see old) (see new) device name change response refl (asks-for-write ring r (object_asks.Change device name change) asked)
            (subst (λ (x : Asked). objects.IsServed see old new moment x response) is done) told

        by : (control replication for_containers : Bool) → control ≡ false → replication ≡ false → for_containers ≡ false
            → MatchBool control ((new ≡ old) × ((response ≡ bare 404) ⊎ (response ≡ bare 500)))
            (MatchBool replication
            (replicas.IsAnswered see old new ring r response ⊎ ((response ≡ bare 500) × replicas.IsGivenUp see old new ring r))
            (MatchBool for_containers
            (containers.IsAnswered see old new ring r response ⊎ ((response ≡ bare 500) × containers.IsGivenUp see old new ring r))
            (objects.IsAnswered see old new ring r moment response ⊎ ((response ≡ bare 500) × objects.IsGivenUp see old new ring r moment))))
            → BearsOut response (write_of change) stood
        by true replication for_containers n p q answered = cc
        by false true for_containers n p q answered = cc
        by false false true n p q answered = cc
        by false false false n p q (inl answered) =
            served answered.0 (one-object-asked ring r answered.0 (object_asks.Change device name change) answered.1 asked) answered.2
        by false false false n p q (inr gave_up) = wanting-object response change stood gave_up.0

    container-then : (device : ℕ) (place : Place) (change : ContChange) → is_for_containers r ≡ true
        → container_asking.IsAsked ring r (container_asks.Change device place change) → TellsContainer old device place
        → TablesBearOut response change ((see new).containers.holds device place)
    container-then device place change for_containers asked told =
        by (is_control r.path) (is_replication_of r) (is_for_containers r) no_control no_replica for_containers may
      where
        stood : Option Tables
        stood = (see new).containers.holds device place

        served : (given : ContAsked) → given ≡ container_asks.Change device place change → containers.IsServed see ring old new given response
            → TablesBearOut response change stood
        served given is done =
            changes-stand (see old) (see new) device place change response refl
            (subst (λ (x : ContAsked). containers.IsServed see ring old new x response) is done) told

        by : (control replication container : Bool) → control ≡ false → replication ≡ false → container ≡ true
            → MatchBool control ((new ≡ old) × ((response ≡ bare 404) ⊎ (response ≡ bare 500)))
            (MatchBool replication
            (replicas.IsAnswered see old new ring r response ⊎ ((response ≡ bare 500) × replicas.IsGivenUp see old new ring r))
            (MatchBool container
            (containers.IsAnswered see old new ring r response ⊎ ((response ≡ bare 500) × containers.IsGivenUp see old new ring r))
            (objects.IsAnswered see old new ring r moment response ⊎ ((response ≡ bare 500) × objects.IsGivenUp see old new ring r moment))))
            → TablesBearOut response change stood
        by true replication container n p q answered = cc
        by false true container n p q answered = cc
        by false false false n p q answered = cc
        by false false true n p q (inl answered) =
            served answered.0 (one-container-asked ring r answered.0 (container_asks.Change device place change) answered.1 asked) answered.2
        by false false true n p q (inr gave_up) = wanting-container response change stood gave_up.0

  -- ---- what goes on to the end, and rests there

  object-on : (w after : AllNodes V K) → Going w after → (device : ℕ) (name : Name) → TellsObject w device name → (response : Response) (change : Change)
      → BearsOut response (write_of change) ((see w).objects.holds device name.hash).state
      → BearsOut response (write_of change) ((see after).objects.holds device name.hash).state
  object-on w after goes device name told response change bears =
      let went = goes.runs (machine_of (see w)) (begins w) in
      subst (λ (h : ObjHalf). BearsOut response (write_of change) (h.holds device name.hash).state) (sym went.2.stands.objects)
      (writes-stand-on (see w).nodes (machine_of (see w)) went.0 went.2.after went.2.run device name.hash told response (write_of change) bears)

  container-on : (w after : AllNodes V K) → Going w after → (device : ℕ) (place : Place) → TellsContainer w device place → (response : Response)
      (change : ContChange) → TablesBearOut response change ((see w).containers.holds device place)
      → TablesBearOut response change ((see after).containers.holds device place)
  container-on w after goes device place told response change bears =
      let went = goes.runs (machine_of (see w)) (begins w) in
      subst (λ (h : ContHalf). TablesBearOut response change (h.holds device place)) (sym went.2.stands.containers)
      (changes-stand-on (see w).nodes (machine_of (see w)) went.0 went.2.after went.2.run device place told response change bears)

  module _ (parts : List (V × K)) (after : AllNodes V K) (rests : ℕ → ℕ → Option (V × K))
      (served : HasServed tells files faults keeps ring (opened serve_bytes ring parts) after rests) where
    abbrev began : AllNodes V K
    began = opened serve_bytes ring parts

    -- the files stand for what the nodes held in the end
    files-hold : (device : ℕ) (name : Name) → (here : device < length ring.devices) → TellsObject began device name
        → holds ring.secrets ring.power (files (served.stored device name.hash here).part.0) name.hash ≡ ((see after).objects.holds device name.hash).state
    files-hold device name here told =
        (served.stored device name.hash here).stands told
        ∙ (ap (λ (ws : List (ℕ × KnownWrite)). state_of (writes_of ((see began).objects.holds device name.hash).state ++ writes_among ws device name.hash))
        goes.known
        ∙ (sym (goes.hash device name.hash told).stands
        ∙ ap (λ (h : ObjHalf). (h.holds device name.hash).state) (sym served.stands.objects)))
      where
        goes : HashesGoOn (nodes_of (length ring.devices) ring.lock_bits ring.power ring.secrets) (machine_of (see began)) served.machine
        goes = hashes-stand (nodes_of (length ring.devices) ring.lock_bits ring.power ring.secrets) (machine_of (see began)) served.lines served.machine
            served.run

    tables-hold : (device : ℕ) (place : Place) → (here : device < length ring.devices) → TellsContainer began device place
        → keeps.holds (served.kept device place here).part.1 place ≡ (see after).containers.holds device place
    tables-hold device place here told =
        (served.kept device place here).stands told ∙ ap (λ (h : ContHalf). h.holds device place) (sym served.stands.containers)

    object-rests : (a : Answered (AllNodes V K)) → IsFoundIn began after a → is_control a.request.path ≡ false
        → is_replication_of a.request ≡ false
        → ObjectReplyStands tells files faults keeps ring began rests a
    object-rests a f no_control no_replica device name change here for_objects asked told =
        let told_before = object-told began a.before f.from device name told in
        let told_then = object-told a.before a.after (went-by a f.moment f.answer) device name told_before in
        let then = object-then a.before a.after a.request f.moment a.response f.answer no_control no_replica device name change for_objects asked
        told_before in (
          (served.stored device name.hash here).part,
          (served.stored device name.hash here).resting,
          subst (λ (s : State). BearsOut a.response (write_of change) s) (sym (files-hold device name here told))
              (object-on a.after after f.to device name told_then a.response change then),
        )

    container-rests : (a : Answered (AllNodes V K)) → IsFoundIn began after a → is_control a.request.path ≡ false
        → is_replication_of a.request ≡ false
        → ContainerReplyStands tells files faults keeps ring began rests a
    container-rests a f no_control no_replica device place change here for_containers asked told =
        let told_before = container-told began a.before f.from device place told in
        let told_then = container-told a.before a.after (went-by a f.moment f.answer) device place told_before in
        let then = container-then a.before a.after a.request f.moment a.response f.answer no_control no_replica device place change for_containers asked
        told_before in (
          (served.kept device place here).part,
          (served.kept device place here).resting,
          subst (λ (t : Option Tables). TablesBearOut a.response change t) (sym (tables-hold device place here told))
              (container-on a.after after f.to device place told_then a.response change then),
        )

    all-rest : (list : List (Answered (AllNodes V K))) → All (IsFoundIn began after) list → All (ReplyStands tells files faults keeps ring began rests) list
    all-rest list all k d within = record {
      object = object-rests _ (all k d within);
      container = container-rests _ (all k d within);
    }

  pub answers-stand : (first : V × K → Type 0) → AnswersStand tells files faults keeps ring first
  answers-stand first port connections rests rests_now doors doors_now out clock clock_now stores stores_now status serving =
      all-rest serving.parts serving.over.after rests_now serving.over.served _
      (all-answers-found tells files faults keeps ring port connections (opened serve_bytes ring serving.parts) serving.over.after doors doors_now out clock
      clock_now _ stores_now serving.over.ended serving.over.ends)
