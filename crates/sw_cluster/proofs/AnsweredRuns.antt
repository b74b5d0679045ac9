-- Every reply of a session is borne out by what rests at the end: the trail has the line of what it tells of, and the trail is a run of the machine.
use Rattle.std.proofs.Common.{◌≡◌, ℕ, ◌<◌, Bool, true, false, List, [], ◌∷◌, ◌++◌, length, Option, Some, ◌⊎◌, inl, inr, refl, sym, ◌∙◌}
use Rattle.std.proofs.Common.{ap, subst, MatchBool, append_assoc}
use Rattle.std.proofs.lemmas.List.{append-nil}
use Rattle.std.specs.List.{All}
use Rattle.sw_container_server.specs.Asking as container_asking
use Rattle.sw_container_server.specs.Replies as container_replies
use Rattle.sw_container_server.specs.Laws.{AsksForOne as AsksForOneContainer}
use Rattle.sw_container_server.specs.Serving as containers
use Rattle.sw_container_server.specs.Targets.{is_for_containers}
use Rattle.sw_container_server.specs.declared.asked.ContAsked.{ContAsked}
use Rattle.sw_container_server.specs.declared.asked.ContAsked.TheVariants as container_asks
use Rattle.sw_container_steps.specs.declared.cont_answer.ContAnswer.{ContAnswer}
use Rattle.sw_container_steps.specs.declared.cont_answer.ContAnswer.TheVariants as cont_answers
use Rattle.sw_container_steps.specs.declared.cont_change.ContChange.{ContChange}
use Rattle.sw_container_steps.specs.declared.cont_entry.ContEntry.{ContEntry}
use Rattle.sw_container_steps.specs.Rules.{cont_rules}
use Rattle.sw_control.specs.Asking.{is_control}
use Rattle.sw_core.specs.Worlds.{AllNodes, KeeperSeen, nodes_of, opened, sight_of}
use Rattle.sw_hashdir.specs.Places.{holds}
use Rattle.sw_hashpath.specs.declared.name.Name.{Name}
use Rattle.sw_hashpath.specs.declared.place.Place.{Place}
use Rattle.sw_machine.proofs.Runs.{hashes-stand}
use Rattle.sw_keeper.specs.declared.tables.Tables.{Tables}
use Rattle.sw_machine.specs.Laws.{HashesGoOn}
use Rattle.sw_machine.specs.Machine.{Came, KnownWrite, RunLine, Runs, Went, came_in, machine_of, writes_among}
use Rattle.sw_machine.specs.Sides.{TellsAt}
use Rattle.sw_message.specs.declared.request.Request.{Request}
use Rattle.sw_message.specs.declared.response.Response.{Response}
use Rattle.sw_nodes.proofs.Asking.{asks-for-write}
use Rattle.sw_nodes.specs.Server.{IsCompared, IsContained, IsControlled, IsServedAt, MayAnswer, MayHalt}
use Rattle.sw_object_server.specs.Asking as object_asking
use Rattle.sw_object_server.specs.Laws.{AsksForOne}
use Rattle.sw_object_server.specs.Replies as object_replies
use Rattle.sw_object_server.specs.Serving as objects
use Rattle.sw_object_server.specs.declared.asked.Asked.{Asked}
use Rattle.sw_object_server.specs.declared.asked.Asked.TheVariants as object_asks
use Rattle.sw_object_steps.specs.Rules.{obj_rules}
use Rattle.sw_object_steps.specs.Steps.{write_of}
use Rattle.sw_object_steps.specs.declared.answer.Answer.{Answer}
use Rattle.sw_object_steps.specs.declared.answer.Answer.TheVariants as answers
use Rattle.sw_object_steps.specs.declared.change.Change.{Change}
use Rattle.sw_peer.specs.ContSights.{IsContMade, is_wanting_cont}
use Rattle.sw_peer.specs.Sights.{IsMade, IsSame, Nodes, Sight, Trails, cont_lock, is_wanting}
use Rattle.sw_peer.specs.declared.cont_event.ContEvent.TheVariants as cont_events
use Rattle.sw_peer.specs.declared.line.Event.TheVariants.{AtContainer, Changed}
use Rattle.sw_peer.specs.declared.line.Line.{Line}
use Rattle.sw_peer.specs.declared.link.Link.TheVariants.{Local}
use Rattle.sw_replica_server.specs.Targets.{is_replication_of}
use Rattle.sw_reply_laws.proofs.Lines.{lines-of-changes-stand, lines-of-writes-stand}
use Rattle.sw_reply_laws.proofs.Making.{once}
use Rattle.sw_reply_laws.specs.Containers.{TablesBearOut}
use Rattle.sw_reply_laws.specs.Objects.{BearsOut}
use Rattle.sw_ring.specs.declared.ring.Ring.{Ring}
use Rattle.sw_session.specs.declared.server.ServerFault.{ServerFault}
use Rattle.sw_state.specs.States.{state_of, writes_of}
use Rattle.sw_state.specs.declared.state.State.{State}
use Rattle.sw_step.specs.Steps.{added_by}
use Rattle.sw_volume.specs.Tree.{Folders}
use Rattle.sw_cluster.proofs.Answered.{wanting-container, wanting-object}
use Rattle.sw_cluster.proofs.Found.{GoesByAnswers, IsFound, session-found}
use Rattle.sw_cluster.specs.Answered.{Answered, ContainerReplyStands, ObjectReplyStands, ReplyStands, SessionAnswersStand}
use Rattle.sw_cluster.specs.Ending.{IsTrail}
use Rattle.sw_cluster.specs.Limits.{run_bytes}
use Rattle.sw_cluster.specs.Told.{read_of, written_of}

some-is : {A : Type 0} {x y : A} → Some x ≡ Some y → x ≡ y
some-is is = cc

-- ---- lines of a run

-- where a line came, the run has it
came-cut : (lines : List RunLine) (xs : List Line) (line : Line) (ys : List Line) → came_in lines ≡ xs ++ line ∷ ys
    → (front : List RunLine) × (behind : List RunLine) × (lines ≡ front ++ Came line ∷ behind)
came-cut [] [] line ys is = cc
came-cut [] (x ∷ xs) line ys is = cc
came-cut (Came one ∷ lines) [] line ys is =
    let same : one ≡ line = cc in ([], lines, ap (λ (l : Line). Came l ∷ lines) same)
came-cut (Came one ∷ lines) (x ∷ xs) line ys is =
    let rest : came_in lines ≡ xs ++ line ∷ ys = cc in
    let found = came-cut lines xs line ys rest in
    (Came one ∷ found.0, found.1, ap (λ (ls : List RunLine). Came one ∷ ls) found.2)
came-cut (Went from message ∷ lines) xs line ys is =
    let found = came-cut lines xs line ys is in
    (Went from message ∷ found.0, found.1, ap (λ (ls : List RunLine). Went from message ∷ ls) found.2)

-- ---- a step whose line is missing wanted memory

wants : (answer : Answer) (made : Response) → is_wanting answer ≡ true → object_replies.reply_to made answer ≡ object_replies.bare 500
wants answers.NoMemory made is = refl
wants (answers.Done front) made is = cc
wants (answers.Buried front) made is = cc
wants (answers.Took took) made is = cc
wants (answers.Conflict time) made is = cc
wants (answers.NotFound time) made is = cc
wants (answers.Mismatch second) made is = cc
wants answers.Exists made is = cc
wants answers.JournalFull made is = cc
wants (answers.Damaged bad) made is = cc
wants answers.Failed made is = cc

wants-cont : (answer : ContAnswer) (change : ContChange) → is_wanting_cont answer ≡ true
    → container_replies.change_reply change answer ≡ object_replies.bare 500
wants-cont cont_answers.NoMemory change is = refl
wants-cont (cont_answers.New front) change is = cc
wants-cont (cont_answers.There front) change is = cc
wants-cont (cont_answers.Done front) change is = cc
wants-cont cont_answers.Absent change is = cc
wants-cont (cont_answers.Stale time) change is = cc
wants-cont (cont_answers.NotEmpty count) change is = cc
wants-cont cont_answers.HasRanges change is = cc
wants-cont cont_answers.NoRanges change is = cc
wants-cont (cont_answers.Redirect shard) change is = cc
wants-cont (cont_answers.StillOpen cursor) change is = cc
wants-cont (cont_answers.Later number) change is = cc
wants-cont (cont_answers.NotAcked lagging) change is = cc
wants-cont cont_answers.JournalFull change is = cc
wants-cont cont_answers.Failed change is = cc

module _ {V K : Type 0} (tells : V → Bool) (files : V → Folders) (faults : V → ℕ) (keeps : KeeperSeen K) (ring : Ring) (one-object-asked : AsksForOne)
    (one-container-asked : AsksForOneContainer) where
  abbrev see : AllNodes V K → Sight
  see w = sight_of tells files faults keeps w

  abbrev May : AllNodes V K → Request → ℕ → Response → AllNodes V K → Type 0
  May = MayAnswer tells files faults keeps ring

  abbrev Halt : AllNodes V K → Request → ℕ → ServerFault → AllNodes V K → Type 0
  Halt w r moment fault after = MayHalt tells files faults keeps ring w r after

  -- ---- the trail only grows

  abbrev Grows : AllNodes V K → AllNodes V K → Type 0
  Grows w after = (more : List Line) × (after.lines ≡ w.lines ++ more)

  grows-still : (w : AllNodes V K) → Grows w w
  grows-still w = ([], sym (append-nil w.lines))

  grows-join : (a b c : AllNodes V K) → Grows a b → Grows b c → Grows a c
  grows-join a b c (xs, first) (ys, next) = (xs ++ ys, next ∙ (ap (λ (ls : List Line). ls ++ ys) first ∙ append_assoc a.lines xs ys))

  grows-by : (w : AllNodes V K) (r : Request) (moment : ℕ) (response : Response) (after : AllNodes V K) → May w r moment response after → Grows w after
  grows-by w r moment response after may =
      let went = may.runs (machine_of (see w)) (record { objects = refl; containers = refl }) in (came_in went.0, some-is went.2.kept)

  grows-by-answers : GoesByAnswers May Grows
  grows-by-answers = record { still = grows-still; join = grows-join; by_answer = grows-by }

  grows-halted : (w : AllNodes V K) (r : Request) (moment : ℕ) (fault : ServerFault) (after : AllNodes V K) → Halt w r moment fault after → Grows w after
  grows-halted w r moment fault after halt = ([], ap (λ (x : AllNodes V K). x.lines) halt.up.rest ∙ sym (append-nil w.lines))

  -- ---- the line of an answer

  -- the step left its line, or it wanted memory
  abbrev Leaves : AllNodes V K → Line → AllNodes V K → Bool → Type 0
  Leaves old line new wanting = (new.lines ≡ old.lines ++ line ∷ []) ⊎ (wanting ≡ true)

  leaves-line : (old new : AllNodes V K) (line : Line) (wanting : Bool) (mid : Sight) → Trails (see old) line wanting mid → IsSame mid (see new)
      → Leaves old line new wanting
  leaves-line old new line wanting mid (inl is) same = inl (some-is (ap (λ (x : Sight). x.trail) same.same ∙ is))
  leaves-line old new line wanting mid (inr none) same = inr none.0

  module _ (a : Answered (AllNodes V K)) (moment : ℕ) (may : May a.before a.request moment a.response a.after)
      (no_control : is_control a.request.path ≡ false) (no_replica : is_replication_of a.request ≡ false) where
    -- a change of an object was answered by its line, or by want of memory
    pub record HasLine (device : ℕ) (name : Name) (change : Change) : Type 0 where
      pub answer : Answer
      pub line : Line
      pub device_is : line.device ≡ device
      pub event_is : line.event ≡ Changed name change answer
      pub reply : a.response ≡ object_replies.reply_to (object_replies.made_reply (write_of change).kind) answer
      pub added : a.after.lines ≡ a.before.lines ++ line ∷ []

    object-line : (device : ℕ) (name : Name) (change : Change) → is_for_containers a.request ≡ false
        → object_asking.IsAsked ring a.request (object_asks.Change device name change)
        → HasLine device name change ⊎ (a.response ≡ object_replies.bare 500)
    object-line device name change for_objects asked =
        by (is_control a.request.path) (is_replication_of a.request) (is_for_containers a.request) no_control no_replica for_objects may.answers
      where
        served : objects.IsServed see a.before a.after moment (object_asks.Change device name change) a.response
            → HasLine device name change ⊎ (a.response ≡ object_replies.bare 500)
        served (answer, stepped, is) = from (leaves-line a.before a.after line (is_wanting answer) came.0 (came.1).trail came.2)
          where
            came : (mid : Sight) × IsMade Local device name change (see a.before) answer mid × IsSame mid (see a.after)
            came = once (IsMade Local device name change) (see a.before) answer (see a.after) stepped.called

            line : Line
            line = record { device = device; link = Local; event = Changed name change answer; added = added_by obj_rules (came.1).step }

            from : Leaves a.before line a.after (is_wanting answer) → HasLine device name change ⊎ (a.response ≡ object_replies.bare 500)
            from (inl added) = inl (record { answer = answer; line = line; device_is = refl; event_is = refl; reply = is; added = added })
            from (inr wanted) = inr (is ∙ wants answer (object_replies.made_reply (write_of change).kind) wanted)

        by : (control replication for_containers : Bool) → control ≡ false → replication ≡ false → for_containers ≡ false
            → MatchBool control (IsControlled tells files faults keeps ring a.before a.request a.response a.after)
            (MatchBool replication (IsCompared tells files faults keeps ring a.before a.request a.response a.after)
            (MatchBool for_containers (IsContained tells files faults keeps ring a.before a.request a.response a.after)
            (IsServedAt tells files faults keeps ring a.before a.request moment a.response a.after)))
            → HasLine device name change ⊎ (a.response ≡ object_replies.bare 500)
        by true replication for_containers n p q answered = cc
        by false true for_containers n p q answered = cc
        by false false true n p q answered = cc
        by false false false n p q (inl answered) =
            served (subst (λ (x : Asked). objects.IsServed see a.before a.after moment x a.response)
            (one-object-asked ring a.request answered.0 (object_asks.Change device name change) answered.1 asked) answered.2)
        by false false false n p q (inr gave_up) = inr gave_up.0

    -- the same of a container
    pub record HasContLine (device : ℕ) (place : Place) (change : ContChange) : Type 0 where
      pub answer : ContAnswer
      pub line : Line
      pub entries : List ContEntry
      pub device_is : line.device ≡ device
      pub event_is : line.event ≡ AtContainer (cont_events.Changed place change answer) entries
      pub reply : a.response ≡ container_replies.change_reply change answer
      pub added : a.after.lines ≡ a.before.lines ++ line ∷ []

    container-line : (device : ℕ) (place : Place) (change : ContChange) → is_for_containers a.request ≡ true
        → container_asking.IsAsked ring a.request (container_asks.Change device place change)
        → HasContLine device place change ⊎ (a.response ≡ object_replies.bare 500)
    container-line device place change for_containers asked =
        by (is_control a.request.path) (is_replication_of a.request) (is_for_containers a.request) no_control no_replica for_containers may.answers
      where
        served : containers.IsServed see ring a.before a.after (container_asks.Change device place change) a.response
            → HasContLine device place change ⊎ (a.response ≡ object_replies.bare 500)
        served (answer, stepped, is) = from (leaves-line a.before a.after line (is_wanting_cont answer) came.0 (came.1).trail came.2)
          where
            came : (mid : Sight) × IsContMade Local device place change (see a.before) answer mid × IsSame mid (see a.after)
            came = once (IsContMade Local device place change) (see a.before) answer (see a.after) stepped.called

            entries : List ContEntry
            entries = added_by cont_rules (came.1).step.step

            line : Line
            line = record { device = device; link = Local; event = AtContainer (cont_events.Changed place change answer) entries; added = [] }

            from : Leaves a.before line a.after (is_wanting_cont answer) → HasContLine device place change ⊎ (a.response ≡ object_replies.bare 500)
            from (inl added) =
                inl (record { answer = answer; line = line; entries = entries; device_is = refl; event_is = refl; reply = is; added = added })
            from (inr wanted) = inr (is ∙ wants-cont answer change wanted)

        by : (control replication container : Bool) → control ≡ false → replication ≡ false → container ≡ true
            → MatchBool control (IsControlled tells files faults keeps ring a.before a.request a.response a.after)
            (MatchBool replication (IsCompared tells files faults keeps ring a.before a.request a.response a.after)
            (MatchBool container (IsContained tells files faults keeps ring a.before a.request a.response a.after)
            (IsServedAt tells files faults keeps ring a.before a.request moment a.response a.after)))
            → HasContLine device place change ⊎ (a.response ≡ object_replies.bare 500)
        by true replication container n p q answered = cc
        by false true container n p q answered = cc
        by false false false n p q answered = cc
        by false false true n p q (inl answered) =
            served (subst (λ (x : ContAsked). containers.IsServed see ring a.before a.after x a.response)
            (one-container-asked ring a.request answered.0 (container_asks.Change device place change) answered.1 asked) answered.2)
        by false false true n p q (inr gave_up) = inr gave_up.0

  -- ---- what rests

  module _ (parts : List (V × K)) (after : AllNodes V K) (rests : ℕ → ℕ → Option (V × K)) (steps : List Line) (same : steps ≡ after.lines)
      (trail : IsTrail tells files faults keeps ring (opened run_bytes ring parts) after rests steps) where
    abbrev began : AllNodes V K
    began = opened run_bytes ring parts

    abbrev ring_nodes : Nodes
    ring_nodes = nodes_of (length ring.devices) ring.lock_bits ring.power ring.secrets

    -- the run of the trail has the line
    line-in : (old new : AllNodes V K) (line : Line) → new.lines ≡ old.lines ++ line ∷ [] → Grows new after
        → (front : List RunLine) × (behind : List RunLine) × Runs ring_nodes (machine_of (see began)) (front ++ Came line ∷ behind) trail.machine
    line-in old new line added (more, is) =
        let found = came-cut trail.lines old.lines line more
        (trail.came ∙ (same ∙ (is ∙ (ap (λ (ls : List Line). ls ++ more) added ∙ append_assoc old.lines (line ∷ []) more)))) in
        (found.0, found.1, subst (λ (ls : List RunLine). Runs ring_nodes (machine_of (see began)) ls trail.machine) found.2 trail.run)

    -- the files stand for what the machine holds
    files-hold : (device : ℕ) (name : Name) → (here : device < length ring.devices) → TellsAt ring_nodes.lock (machine_of (see began)).objects device name.hash
        → holds ring.secrets ring.power (files (trail.stored device name.hash here).part.0) name.hash
        ≡ (trail.machine.objects.half.holds device name.hash).state
    files-hold device name here told =
        (trail.stored device name.hash here).stands told
        ∙ (ap (λ (ws : List (ℕ × KnownWrite)). state_of (writes_of ((see began).objects.holds device name.hash).state ++ writes_among ws device name.hash))
        goes.known ∙ sym (goes.hash device name.hash told).stands)
      where
        goes : HashesGoOn ring_nodes (machine_of (see began)) trail.machine
        goes = hashes-stand ring_nodes (machine_of (see began)) trail.lines trail.machine trail.run

    object-rests : (a : Answered (AllNodes V K)) → IsFound May Grows Grows began after a → is_control a.request.path ≡ false
        → is_replication_of a.request ≡ false
        → ObjectReplyStands tells files faults keeps ring began rests a
    object-rests a f no_control no_replica device name change here for_objects asked told = (
      (trail.stored device name.hash here).part,
      (trail.stored device name.hash here).resting,
      by (object-line a f.moment f.answer no_control no_replica device name change for_objects asked),
    )
      where
        stood : State
        stood = holds ring.secrets ring.power (files (trail.stored device name.hash here).part.0) name.hash

        by : HasLine a f.moment f.answer no_control no_replica device name change ⊎ (a.response ≡ object_replies.bare 500)
            → BearsOut a.response (write_of change) stood
        by (inr wanted) = wanting-object a.response change stood wanted
        by (inl l) =
            subst (λ (r : Response). BearsOut r (write_of change) stood) (sym l.reply)
            (subst (λ (s : State). BearsOut (object_replies.reply_to (object_replies.made_reply (write_of change).kind) l.answer) (write_of change) s)
            (sym (files-hold device name here told))
            (subst (λ (d : ℕ). BearsOut (object_replies.reply_to (object_replies.made_reply (write_of change).kind) l.answer) (write_of change)
            (trail.machine.objects.half.holds d name.hash).state) l.device_is
            (lines-of-writes-stand ring_nodes (machine_of (see began)) cut.0 l.line cut.1 trail.machine cut.2 name change l.answer l.event_is
            (asks-for-write ring a.request (object_asks.Change device name change) asked)
            (subst (λ (d : ℕ). TellsAt ring_nodes.lock (machine_of (see began)).objects d name.hash) (sym l.device_is) told))))
          where
            cut : (front : List RunLine) × (behind : List RunLine)
                × Runs ring_nodes (machine_of (see began)) (front ++ Came l.line ∷ behind) trail.machine
            cut = line-in a.before a.after l.line l.added f.to

    container-rests : (a : Answered (AllNodes V K)) → IsFound May Grows Grows began after a → is_control a.request.path ≡ false
        → is_replication_of a.request ≡ false
        → ContainerReplyStands tells files faults keeps ring began rests a
    container-rests a f no_control no_replica device place change here for_containers asked told = (
      (trail.kept device place here).part,
      (trail.kept device place here).resting,
      by (container-line a f.moment f.answer no_control no_replica device place change for_containers asked),
    )
      where
        stood : Option Tables
        stood = keeps.holds (trail.kept device place here).part.1 place

        by : HasContLine a f.moment f.answer no_control no_replica device place change ⊎ (a.response ≡ object_replies.bare 500)
            → TablesBearOut a.response change stood
        by (inr wanted) = wanting-container a.response change stood wanted
        by (inl l) =
            subst (λ (r : Response). TablesBearOut r change stood) (sym l.reply)
            (subst (λ (t : Option Tables). TablesBearOut (container_replies.change_reply change l.answer) change t)
            (sym ((trail.kept device place here).stands told))
            (subst (λ (d : ℕ). TablesBearOut (container_replies.change_reply change l.answer) change
            (trail.machine.containers.half.holds d place)) l.device_is
            (lines-of-changes-stand ring_nodes (machine_of (see began)) cut.0 l.line cut.1 trail.machine cut.2 place change l.answer l.entries l.event_is
            (subst (λ (d : ℕ). TellsAt (cont_lock ring_nodes) (machine_of (see began)).containers d place) (sym l.device_is) told))))
          where
            cut : (front : List RunLine) × (behind : List RunLine)
                × Runs ring_nodes (machine_of (see began)) (front ++ Came l.line ∷ behind) trail.machine
            cut = line-in a.before a.after l.line l.added f.to

    all-rest : (list : List (Answered (AllNodes V K))) → All (IsFound May Grows Grows began after) list
        → All (ReplyStands tells files faults keeps ring began rests) list
    all-rest list all k d within = record {
      object = object-rests _ (all k d within);
      container = container-rests _ (all k d within);
    }

  pub session-answers-stand : (first : V × K → Type 0) → SessionAnswersStand tells files faults keeps ring first
  session-answers-stand first rests rests_now stores stores_now source sink clock clock_now trail status run =
      all-rest run.parts run.over.after rests_now trail.steps run.over.steps run.over.told _
      (session-found (λ request. false) May Halt Grows Grows grows-by-answers grows-by-answers grows-halted (opened run_bytes ring run.parts)
      (read_of source) (written_of sink) trail.moments run.over.after run.over.ends.ended run.over.ends.session)
