-- What a session over the nodes of a ring knows of them, request by request, and what its trail tells at the end.
use Rattle.std.proofs.Common.{◌≡◌, ℕ, ◌*◌, ◌^◌, ◌<◌, ◌≤◌, ◌==◌, Bool, true, false, ◌&&◌, not, List, [], ◌++◌, length, Option, Some, None}
use Rattle.std.proofs.Common.{refl, sym, ◌∙◌, ap, subst, Result, Ok, Err, inl, inr, if◌then◌else◌, MutBor}
use Rattle.std.specs.Bool.{⊤}
use Rattle.std.specs.List.{All}
use Rattle.sw_container_locks.specs.Slots.{AreLocks}
use Rattle.sw_message.specs.declared.request.Request.{Request}
use Rattle.sw_message.specs.declared.response.Response.{Response}
use Rattle.sw_outside.specs.Counts.{raised}
use Rattle.sw_outside.specs.Readings.{TicksEach}
use Rattle.sw_peer.specs.Sights.{Nodes as SightNodes, Sight}
use Rattle.sw_peer.specs.declared.line.Line.{Line}
use Rattle.sw_ring.specs.declared.ring.Ring.{Ring}
use Rattle.sw_session.proofs.Mapping.{session-ends}
use Rattle.sw_session.specs.Passages.{Passage}
use Rattle.sw_session.specs.Replies.{Halts, Serves}
use Rattle.sw_session.specs.Session.{EndsAs, IsSession, OwnPuts, WaitsForMore}
use Rattle.sw_session.specs.declared.server.ServerFault.{ServerFault}
use Rattle.sw_session.specs.declared.server.ServerFault.TheVariants as servers
use Rattle.sw_session.specs.declared.session.SessionFault.{SessionFault}
use Rattle.sw_session.specs.declared.session.SessionFault.TheVariants as session_faults
use Rattle.sw_stores.specs.Places.{ComeHome}
use Rattle.sw_stores.specs.Starting.{AreResting}
use Rattle.sw_volume.specs.Tree.{Folders}
use Rattle.sw_volume.specs.Volume.{raised_by}
use Rattle.sw_nodes.specs.Restarts.{AreCalled, restarts_in}
use Rattle.sw_nodes.proofs.Keeping.{runs-itself}
use Rattle.sw_nodes.proofs.Readying.{ready-of}
use Rattle.sw_nodes.proofs.Restarting.{called-on, none-called, out-called, whole-called}
use Rattle.sw_machine.proofs.Honesty.{honest-join, honest-leaving}
use Rattle.sw_machine.specs.Honest.{AreHonest, RunsHonestly}
use Rattle.sw_machine.specs.Doors.{GoesOn}
use Rattle.sw_pass.specs.Rings.{replicas_in}
use Rattle.sw_machine.specs.Machine.{RunLine, Runs, came_in, machine_of}
use Rattle.sw_core.specs.Worlds.{AllNodes, AreContainers, IsWorld, KeeperSeen, Lifts, SlotTellsOn, first_of, nodes_of, opened, shown, sight_of, without_lines}
use Rattle.sw_cluster.proofs.Holding.{holds-on}
use Rattle.sw_cluster.proofs.Listing.{lists-exactly}
use Rattle.sw_cluster.proofs.Mapped.{ends-mapped}
use Rattle.sw_cluster.specs.Ending.{Ends, IsRunOver, IsTrail, ReadsInTurn, status_by}
use Rattle.sw_cluster.specs.Told.{Counts, Input, Output, counts, read_of, written_of}
use Rattle.sw_nodes.specs.Nodes.{IsReady, NodesAnswer, NodesHalt, faults_by, out_but, places_at, places_of}
use Rattle.sw_nodes.specs.Server.{MayAnswer, MayHalt}
use Rattle.sw_cluster.specs.Statuses as statuses
use Rattle.sw_nodes.specs.declared.server.Nodes.{Nodes}
use Rattle.sw_cluster.specs.Limits.{run_bytes}
use Rattle.sw_cluster.proofs.Storing.{AllRest, AllTellOn, all-tell-on, kept, others, rests-before, same-devices, stored, tell-before}

some-is : {A : Type 0} {x y : A} → Some x ≡ Some y → x ≡ y
some-is is = cc

swap-and : (a b : Bool) → (not a && b) ≡ (b && not a)
swap-and true true = refl
swap-and true false = refl
swap-and false true = refl
swap-and false false = refl

abbrev ring_in : {S V K : Type 0} → Nodes S V K → Ring
ring_in n = n.ring.now

abbrev world_in : {S V K : Type 0} → Nodes S V K → AllNodes V K
world_in n = n.network.door

abbrev stores_in : {S V K : Type 0} → Nodes S V K → MutBor S
stores_in n = n.stores

module _ {V K : Type 0} (tells : V → Bool) (files : V → Folders) (faults : V → ℕ) (keeps : KeeperSeen K) (ring : Ring) where
  abbrev see : AllNodes V K → Sight
  see w = sight_of tells files faults keeps w

  -- ---- what its trail tells

  -- a world that a run came to, none of whose devices is out, whose volumes and keepers came to rest at the places of their locks; and another one, which
  -- has its lines
  module _ (began w after : AllNodes V K) (is : IsWorld w) (whole : w.lifted ≡ None)
      (nodes : nodes_of (shown w.lifted w.devices) w.lock_bits w.power w.secrets ≡ nodes_of (length ring.devices) ring.lock_bits ring.power ring.secrets)
      (lines : List RunLine) (honest : AreHonest ring.secrets (replicas_in ring) [] lines)
      (run : GoesOn (see began) (machine_of (see began)) lines (see w)) (comes : RunsHonestly ring.secrets (replicas_in ring) (see began) (see w))
      (rests : ℕ → ℕ → Option (V × K)) (new : began.lines ≡ []) (same_lines : after.lines ≡ w.lines) (resting : AllRest tells files faults keeps ring rests w)
      (told_on : AllTellOn tells files faults keeps ring w) where
    -- the lines of the run are those of the world
    lines-are : came_in lines ≡ w.lines
    lines-are = ap (λ (ls : List Line). ls ++ came_in lines) (sym new) ∙ sym (some-is run.kept)

    ran : Runs (nodes_of (length ring.devices) ring.lock_bits ring.power ring.secrets) (machine_of (see began)) lines run.after
    ran = subst (λ (n : SightNodes). Runs n (machine_of (see began)) lines run.after) (sym run.nodes ∙ nodes) run.run

    pub trail-of : IsTrail tells files faults keeps ring began after rests after.lines
    trail-of = record {
      lines = lines;
      came = lines-are ∙ sym same_lines;
      machine = run.after;
      run = ran;
      honest = honest;
      lists = lists-exactly ring (see began) lines run.after ran honest;
      holds = holds-on ring (see began) lines run.after ran honest;
      last = w;
      comes = comes;
      stands = run.stands;
      others = others tells files faults keeps ring began w is whole nodes lines run.after ran rests resting told_on run.stands.objects run.stands.containers;
      stored = stored tells files faults keeps ring began w is whole nodes lines run.after ran rests resting told_on run.stands.objects;
      kept = kept tells files faults keeps ring began w is whole nodes lines run.after ran rests resting told_on run.stands.containers;
    }

  -- ---- request by request

  relined : (w : AllNodes V K) → IsWorld (without_lines w) → IsWorld w
  relined w is = record {
    devices = is.devices;
    lock_bits = is.lock_bits;
    fine = is.fine;
    least = is.least;
    greatest = is.greatest;
    count = is.count;
    out = is.out;
    slots = is.slots;
  }

  -- how a server that has nodes and stores answers, and how it halts
  abbrev pub ServesOver : {S N : Type 0} → (S → ℕ) → (S → ℕ) → (S → ℕ → ℕ → Bool) → (N → Ring) → (N → AllNodes V K) → (N → MutBor S) → Serves N
  ServesOver store_faults store_calls out ring_of world_of stores_of old request moment response new =
      NodesAnswer tells files faults keeps store_faults store_calls out (ring_of old) (ring_of new) (world_of old) (world_of new) (stores_of old)
      (stores_of new) request moment response

  abbrev pub HaltsOver : {S N : Type 0} → (S → ℕ) → (S → ℕ) → (S → ℕ → ℕ → Option (V × K)) → (S → ℕ → ℕ → Bool) → (N → Ring) → (N → AllNodes V K)
      → (N → MutBor S) → Halts N
  HaltsOver store_faults store_calls rests out ring_of world_of stores_of old request moment fault new =
      NodesHalt tells files faults keeps store_faults store_calls rests out (ring_of old) (ring_of new) (world_of old) (world_of new) (stores_of old)
      (stores_of new) request fault

  -- a session of such a server
  abbrev pub SessionOver : {S N : Type 0} → (S → ℕ) → (S → ℕ) → (S → ℕ → ℕ → Option (V × K)) → (S → ℕ → ℕ → Bool) → (N → Ring) → (N → AllNodes V K) →
      (N → MutBor S) → N
      → Passage → Passage → List ℕ → N
      → Result ⊤ SessionFault → Type 0
  SessionOver store_faults store_calls rests out ring_of world_of stores_of = IsSession (λ request. false)
      (ServesOver store_faults store_calls out ring_of world_of stores_of) (HaltsOver store_faults store_calls rests out ring_of world_of stores_of)

  module _ {S : Type 0} (store_faults store_calls : S → ℕ) (rests : S → ℕ → ℕ → Option (V × K)) (out : S → ℕ → ℕ → Bool)
      (began : AllNodes V K) (stores : MutBor S) where
    -- so far each request was answered
    pub record IsUnderWay (ring_now : Ring) (w : AllNodes V K) (stores_now : MutBor S) : Type 0 where
      pub ring_is : ring_now ≡ ring
      pub ready : IsReady out ring w stores_now.now
      pub faults_are : store_faults stores_now.now ≡ store_faults stores.now
      pub calls_are : store_calls stores_now.now ≡ raised_by (restarts_in w.lines * 2 ^ ring.lock_bits) (store_calls stores.now)
      pub same_stores : stores_now.ghost_name ≡ stores.ghost_name
      pub runs : RunsHonestly ring.secrets (replicas_in ring) (see began) (see w)
      pub new : began.lines ≡ []

    -- then a device couldn't be restarted
    pub record IsHalted (fault : ServerFault) (after : AllNodes V K) (stores_now : MutBor S) : Type 0 where
      pub ring_then : Ring
      pub w : AllNodes V K
      pub stores_then : MutBor S
      pub way : IsUnderWay ring_then w stores_then
      pub device : ℕ
      pub given : List (V × K)
      pub up : Lifts tells files faults keeps w device given after
      pub resting : AreResting (rests stores_now.now) (2 ^ ring.lock_bits) (first_of ring.lock_bits device) given
      pub home : ComeHome (places_at ring device) (out stores_then.now) (out stores_now.now)
      pub faults_are : store_faults stores_now.now ≡ faults_by (store_faults stores.now) fault
      pub tried : ℕ
      pub most : tried ≤ 2 ^ ring.lock_bits
      pub calls_are : store_calls stores_now.now ≡ raised_by tried (store_calls stores_then.now)
      pub same_stores : stores_now.ghost_name ≡ stores.ghost_name

    -- what is known however it ends: what giving the volumes and keepers back asks for, and what the trail tells after that
    pub record IsEnded (faults_now : ℕ) (w : AllNodes V K) (stores_now : MutBor S) : Type 0 where
      pub devices : w.devices ≡ length ring.devices
      pub lock_bits : w.lock_bits ≡ ring.lock_bits
      pub lifted : (device : ℕ) → w.lifted ≡ Some device → device < length ring.devices
      pub are_out : (d s : ℕ) → out stores_now.now d s ≡ out_but ring w.lifted d s
      pub faults_are : store_faults stores_now.now ≡ faults_now
      pub calls_are : AreCalled ring w.lifted w.lines (store_calls stores.now) (store_calls stores_now.now)
      pub same_stores : stores_now.ghost_name ≡ stores.ghost_name
      pub tells_trail : (now : ℕ → ℕ → Option (V × K)) → IsWorld (without_lines w)
          → AllRest tells files faults keeps ring now w
          → ((device : ℕ) → w.lifted ≡ Some device → (d s : ℕ) → places_at ring device d s ≡ true → now d s ≡ rests stores_now.now d s)
          → AllTellOn tells files faults keeps ring w → IsTrail tells files faults keeps ring began w now w.lines

    pub way-begun : (parts : List (V × K)) → length parts ≡ length ring.devices * 2 ^ ring.lock_bits → began ≡ opened run_bytes ring parts
        → ((d s : ℕ) → out stores.now d s ≡ places_of ring d s) → IsUnderWay ring began stores
    way-begun parts count is are_out = record {
      ring_is = refl;
      ready = ready-of out ring began stores.now (ap (λ (w : AllNodes V K). w.lifted) is)
          (ap (λ (w : AllNodes V K). nodes_of (shown w.lifted w.devices) w.lock_bits w.power w.secrets) is) are_out;
      faults_are = refl;
      calls_are = none-called (2 ^ ring.lock_bits) (store_calls stores.now) (store_calls stores.now) refl
          ∙ ap (λ (w : AllNodes V K). raised_by (restarts_in w.lines * 2 ^ ring.lock_bits) (store_calls stores.now)) (sym is);
      same_stores = refl;
      runs = honest-leaving ring.secrets (replicas_in ring) (see began) (see began) (runs-itself (see began));
      new = ap (λ (w : AllNodes V K). w.lines) is;
    }

    module _ (ring_now ring_after : Ring) (w after : AllNodes V K) (stores_now stores_after : MutBor S) (request : Request)
        (way : IsUnderWay ring_now w stores_now) where
      goes-on : (moment : ℕ) (response : Response)
          → NodesAnswer tells files faults keeps store_faults store_calls out ring_now ring_after w after stores_now stores_after request moment response
          → IsUnderWay ring_after after stores_after
      goes-on moment response answer = record {
        ring_is = answer.ring_is ∙ way.ring_is;
        ready = subst (λ (r : Ring). IsReady out r after stores_after.now) (answer.ring_is ∙ way.ring_is) answer.ready;
        faults_are = answer.faults_are ∙ way.faults_are;
        calls_are = called-on (2 ^ ring.lock_bits) (restarts_in w.lines) answer.gained (restarts_in after.lines) (store_calls stores.now)
            (store_calls stores_now.now) (store_calls stores_after.now) answer.gains way.calls_are
            (subst (λ (r : Ring). store_calls stores_after.now ≡ raised_by (answer.gained * 2 ^ r.lock_bits) (store_calls stores_now.now))
            way.ring_is answer.calls_are);
        same_stores = answer.same_stores ∙ way.same_stores;
        runs = honest-join ring.secrets (replicas_in ring) (see began) (see w) (see after) way.runs
            (subst (λ (r : Ring). RunsHonestly r.secrets (replicas_in r) (see w) (see after)) way.ring_is answer.may.runs);
        new = way.new;
      }

      halts : (fault : ServerFault)
          → NodesHalt tells files faults keeps store_faults store_calls rests out ring_now ring_after w after stores_now stores_after request fault
          → IsHalted fault after stores_after
      halts fault halt = record {
        ring_then = ring_now;
        w = w;
        stores_then = stores_now;
        way = way;
        device = halt.may.device;
        given = halt.may.given;
        up = halt.may.up;
        resting = subst (λ (r : Ring). AreResting (rests stores_after.now) (2 ^ r.lock_bits) (first_of r.lock_bits halt.may.device) halt.may.given)
            way.ring_is halt.given;
        home = subst (λ (r : Ring). ComeHome (places_at r halt.may.device) (out stores_now.now) (out stores_after.now)) way.ring_is halt.home;
        faults_are = halt.faults_are ∙ ap (λ (n : ℕ). faults_by n fault) way.faults_are;
        tried = halt.tried;
        most = subst (λ (r : Ring). halt.tried ≤ 2 ^ r.lock_bits) way.ring_is halt.most;
        calls_are = halt.calls_are;
        same_stores = halt.same_stores ∙ way.same_stores;
      }

      says : (moment : ℕ) (response : Response)
          → NodesAnswer tells files faults keeps store_faults store_calls out ring_now ring_after w after stores_now stores_after request moment response
          → MayAnswer tells files faults keeps ring w request moment response after
      says moment response answer = subst (λ (r : Ring). MayAnswer tells files faults keeps r w request moment response after) way.ring_is answer.may

      says-halt : (fault : ServerFault)
          → NodesHalt tells files faults keeps store_faults store_calls rests out ring_now ring_after w after stores_now stores_after request fault
          → MayHalt tells files faults keeps ring w request after
      says-halt fault halt = subst (λ (r : Ring). MayHalt tells files faults keeps r w request after) way.ring_is halt.may

    -- ---- the end

    -- from what the nodes began with
    run-of : (w : AllNodes V K) → RunsHonestly ring.secrets (replicas_in ring) (see began) (see w)
        → (lines : List RunLine) × AreHonest ring.secrets (replicas_in ring) [] lines × GoesOn (see began) (machine_of (see began)) lines (see w)
    run-of w runs = let went = runs (machine_of (see began)) (record { objects = refl; containers = refl }) in (went.0, went.1 [], went.2)

    none-lifted : (device : ℕ) → None ≡ Some device → ⊥
    none-lifted device is = cc

    ended : (ring_now : Ring) (w : AllNodes V K) (stores_now : MutBor S) → IsUnderWay ring_now w stores_now → IsEnded (store_faults stores.now) w stores_now
    ended ring_now w stores_now way = record {
      devices = same-devices w.lifted w.devices (length ring.devices) way.ready.whole (ap (λ (n : SightNodes). n.devices) way.ready.nodes);
      lock_bits = ap (λ (n : SightNodes). n.lock_bits) way.ready.nodes;
      lifted = λ device is. absurd (none-lifted device (sym way.ready.whole ∙ is));
      are_out = λ d s. way.ready.are_out d s ∙ sym (ap (λ (o : Option ℕ). out_but ring o d s) way.ready.whole);
      faults_are = way.faults_are;
      calls_are = whole-called ring w.lifted w.lines (store_calls stores.now) (store_calls stores_now.now) way.calls_are;
      same_stores = way.same_stores;
      tells_trail = λ now is resting same told_on.
          let run = run-of w way.runs in
          trail-of began w w (relined w is) way.ready.whole way.ready.nodes run.0 run.1 run.2 way.runs now way.new refl resting told_on;
    }

    module _ (fault : ServerFault) (after : AllNodes V K) (stores_now : MutBor S) (h : IsHalted fault after stores_now) where
      old-devices : h.w.devices ≡ length ring.devices
      old-devices = same-devices h.w.lifted h.w.devices (length ring.devices) h.way.ready.whole (ap (λ (n : SightNodes). n.devices) h.way.ready.nodes)

      old-bits : h.w.lock_bits ≡ ring.lock_bits
      old-bits = ap (λ (n : SightNodes). n.lock_bits) h.way.ready.nodes

      out-is : after.lifted ≡ Some h.device
      out-is = ap (λ (x : AllNodes V K). x.lifted) h.up.rest

      -- where the volumes and keepers came to rest that were there before the device was lifted
      rests-old : (now : ℕ → ℕ → Option (V × K))
          → AllRest tells files faults keeps ring now after
          → ((device : ℕ) → after.lifted ≡ Some device → (d s : ℕ) → places_at ring device d s ≡ true → now d s ≡ rests stores_now.now d s)
          → AllRest tells files faults keeps ring now h.w
      rests-old now resting same = rests-before tells files faults keeps ring h.w after old-bits h.device h.given h.up (rests stores_now.now) now h.resting
          resting
          same

      halt-ended : IsEnded (faults_by (store_faults stores.now) fault) after stores_now
      halt-ended = record {
        devices = ap (λ (x : AllNodes V K). x.devices) h.up.rest ∙ old-devices;
        lock_bits = ap (λ (x : AllNodes V K). x.lock_bits) h.up.rest ∙ old-bits;
        lifted = λ device is. subst (λ (d : ℕ). d < length ring.devices) (some-is (sym out-is ∙ is))
            (subst (λ (n : ℕ). h.device < n) old-devices h.up.is_device);
        are_out = λ d s. h.home d s ∙ (ap (λ (b : Bool). not (places_at ring h.device d s) && b) (h.way.ready.are_out d s)
            ∙ (swap-and (places_at ring h.device d s) (places_of ring d s) ∙ sym (ap (λ (o : Option ℕ). out_but ring o d s) out-is)));
        faults_are = h.faults_are;
        calls_are = out-called ring after.lifted h.device after.lines h.w.lines (store_calls stores.now) (store_calls h.stores_then.now)
            (store_calls stores_now.now) h.tried out-is (ap (λ (x : AllNodes V K). x.lines) h.up.rest) h.most h.way.calls_are h.calls_are;
        same_stores = h.same_stores;
        tells_trail = λ now is resting same told_on.
            let run = run-of h.w h.way.runs in
            trail-of began h.w after h.up.world h.up.whole h.way.ready.nodes run.0 run.1 run.2 h.way.runs now h.way.new
            (ap (λ (x : AllNodes V K). x.lines) h.up.rest) (rests-old now resting same)
            (tell-before tells files faults keeps ring h.w after old-bits h.device h.given h.up told_on);
      }

    -- the count of faults of the stores at the end
    abbrev pub faults_at : ℕ → ℕ
    faults_at status = if status == statuses.store_fault then raised (store_faults stores.now) else store_faults stores.now

    module _ {N : Type 0} (ring_of : N → Ring) (world_of : N → AllNodes V K) (stores_of : N → MutBor S) where
      over : (n : N) (result : Result ⊤ SessionFault)
          → EndsAs (λ (n : N). IsUnderWay (ring_of n) (world_of n) (stores_of n))
          (λ (fault : ServerFault) (n : N). IsHalted fault (world_of n) (stores_of n)) n result
          → IsEnded (faults_at (status_by result)) (world_of n) (stores_of n)
      over n (Ok done) way = ended (ring_of n) (world_of n) (stores_of n) way
      over n (Err session_faults.ReadFault) way = ended (ring_of n) (world_of n) (stores_of n) way
      over n (Err session_faults.WriteFault) way = ended (ring_of n) (world_of n) (stores_of n) way
      over n (Err session_faults.TooLong) way = ended (ring_of n) (world_of n) (stores_of n) way
      over n (Err session_faults.BadInput) way = ended (ring_of n) (world_of n) (stores_of n) way
      over n (Err session_faults.ServerFault) h = halt-ended servers.Failed (world_of n) (stores_of n) h
      over n (Err session_faults.NoMemory) (inl way) = ended (ring_of n) (world_of n) (stores_of n) way
      over n (Err session_faults.NoMemory) (inr h) = halt-ended servers.NoMemory (world_of n) (stores_of n) h

      module _ (start : N) (source : Input) (sink : Output) (moments : List ℕ) (after : N) (result : Result ⊤ SessionFault)
          (way : IsUnderWay (ring_of start) (world_of start) (stores_of start))
          (session : SessionOver store_faults store_calls rests out ring_of world_of stores_of start (read_of source) (written_of sink) moments after
          result) where
        pub session-over : IsEnded (faults_at (status_by result)) (world_of after) (stores_of after)
        session-over = over after result (session-ends _ _ _ (λ (n : N). IsUnderWay (ring_of n) (world_of n) (stores_of n))
            (λ old request moment response new p answer.
            goes-on (ring_of old) (ring_of new) (world_of old) (world_of new) (stores_of old) (stores_of new) request p moment response answer)
            (λ (fault : ServerFault) (n : N). IsHalted fault (world_of n) (stores_of n))
            (λ old request moment fault new p halt. halts (ring_of old) (ring_of new) (world_of old) (world_of new) (stores_of old)
            (stores_of new) request p fault halt)
            start (read_of source) (written_of sink) moments after result way session)

        pub session-said : (status : ℕ) → status ≡ status_by result
            → OwnPuts (λ request. false) (ServesOver store_faults store_calls out ring_of world_of stores_of)
            (HaltsOver store_faults store_calls rests out ring_of world_of stores_of) start after source.before sink.before sink.now moments sink.calls
            sink.calls_now result
            → ReadsInTurn (λ request. false) (ServesOver store_faults store_calls out ring_of world_of stores_of) start moments source
            → (result ≡ Err session_faults.ReadFault
            → WaitsForMore (λ request. false) (ServesOver store_faults store_calls out ring_of world_of stores_of) start after source.before source.now
            sink.before sink.now moments sink.calls sink.calls_now)
            → Ends (λ request. false) (MayAnswer tells files faults keeps ring) (λ w r moment fault. MayHalt tells files faults keeps ring w r)
            (world_of start) source sink moments (world_of after) status
        session-said status status_is puts reads waits = ends-mapped _ _ _ (λ (n : N). IsUnderWay (ring_of n) (world_of n) (stores_of n))
            (λ old request moment response new p answer.
            goes-on (ring_of old) (ring_of new) (world_of old) (world_of new) (stores_of old) (stores_of new) request p moment response answer)
            (MayAnswer tells files faults keeps ring) (λ w r moment fault. MayHalt tells files faults keeps ring w r) world_of
            (λ old request moment response new p answer.
            says (ring_of old) (ring_of new) (world_of old) (world_of new) (stores_of old) (stores_of new) request p moment response answer)
            (λ old request moment fault new p halt.
            says-halt (ring_of old) (ring_of new) (world_of old) (world_of new) (stores_of old) (stores_of new) request p fault halt)
            start source sink moments after result status way status_is session puts reads waits

  -- ---- a session from nodes in which nothing has happened

  module _ {S : Type 0} (store_faults store_calls : S → ℕ) (rests : S → ℕ → ℕ → Option (V × K)) (out : S → ℕ → ℕ → Bool)
      (start : Nodes S V K) (source : Input) (sink : Output) (moments : List ℕ) (after : Nodes S V K) (result : Result ⊤ SessionFault)
      (session : SessionOver store_faults store_calls rests out ring_in world_in stores_in start (read_of source) (written_of sink) moments after result)
      (same : start.ring.now ≡ ring)
      (begun : (parts : List (V × K)) × (length parts ≡ length ring.devices * 2 ^ ring.lock_bits) × (start.network.door ≡ opened run_bytes ring parts))
      (are_out : (d s : ℕ) → out start.stores.now d s ≡ places_of ring d s) where
    way : IsUnderWay store_faults store_calls rests out start.network.door start.stores start.ring.now start.network.door start.stores
    way = subst (λ (r : Ring). IsUnderWay store_faults store_calls rests out start.network.door start.stores r start.network.door start.stores) (sym same)
        (way-begun store_faults store_calls rests out start.network.door start.stores begun.0 begun.1 begun.2 are_out)

    pub nodes-ended : IsEnded store_faults store_calls rests out start.network.door start.stores
        (faults_at store_faults store_calls rests out start.network.door start.stores (status_by result)) after.network.door after.stores
    nodes-ended = session-over store_faults store_calls rests out start.network.door start.stores ring_in world_in stores_in start source sink moments after
        result way session

    -- what was run, once the volumes and keepers were given back
    pub nodes-run : (world : AllNodes V K) (rests_now : ℕ → ℕ → Option (V × K)) (stores_now : Counts) (clock clock_now : Option (List ℕ)) (steps : List Line)
        (read : List ℕ) (status : ℕ)
        → status ≡ status_by result → steps ≡ after.network.door.lines → world ≡ without_lines after.network.door → read ≡ moments →
        TicksEach clock clock_now moments
        → IsWorld world → AllRest tells files faults keeps ring rests_now world
        → ((device : ℕ) → world.lifted ≡ Some device → (d s : ℕ) → places_at ring device d s ≡ true → rests_now d s ≡ rests after.stores.now d s)
        → All (SlotTellsOn tells files faults) world.slots → AreContainers world.devices world.lock_bits world.lifted world.containers
        → AreLocks keeps.tells world.containers → stores_now.faults ≡ store_faults after.stores.now → stores_now.calls ≡ store_calls after.stores.now
        → OwnPuts (λ request. false) (ServesOver store_faults store_calls out ring_in world_in stores_in)
        (HaltsOver store_faults store_calls rests out ring_in world_in stores_in) start after source.before sink.before sink.now moments sink.calls
        sink.calls_now result
        → ReadsInTurn (λ request. false) (ServesOver store_faults store_calls out ring_in world_in stores_in) start moments source
        → (result ≡ Err session_faults.ReadFault
        → WaitsForMore (λ request. false) (ServesOver store_faults store_calls out ring_in world_in stores_in) start after source.before source.now
        sink.before sink.now moments sink.calls sink.calls_now)
        → IsRunOver tells files faults keeps ring start.network.door rests_now (counts store_calls store_faults start.stores.now) stores_now source
        sink clock clock_now (record { steps = steps; moments = read }) status
    nodes-run world rests_now stores_now clock clock_now steps read status status_is steps_are taken read_is ticks is resting same_out told_on there locks
        faults_are
        calls_are puts reads waits = record {
          after = after.network.door;
          ends = subst (λ (ms : List ℕ). Ends (λ request. false) (MayAnswer tells files faults keeps ring)
              (λ w r moment fault. MayHalt tells files faults keeps ring w r) start.network.door source sink ms after.network.door status) (sym read_is)
              (session-said store_faults store_calls rests out start.network.door start.stores ring_in world_in stores_in start source sink moments
              after result way session status status_is puts reads waits);
          steps = steps_are;
          told = subst (λ (ls : List Line). IsTrail tells files faults keeps ring start.network.door after.network.door rests_now ls) (sym steps_are)
              (nodes-ended.tells_trail rests_now (subst (λ (w : AllNodes V K). IsWorld w) taken is)
              (subst (AllRest tells files faults keeps ring rests_now) taken resting)
              (λ device lifted. same_out device (ap (λ (w : AllNodes V K). w.lifted) taken ∙ lifted))
              (all-tell-on tells files faults keeps ring after.network.door
              (subst (All (SlotTellsOn tells files faults)) (ap (λ (w : AllNodes V K). w.slots) taken) told_on)
              (subst (λ (w : AllNodes V K). AreContainers w.devices w.lock_bits w.lifted w.containers) taken there)
              (subst (λ (w : AllNodes V K). AreLocks keeps.tells w.containers) taken locks)));
          moments = subst (TicksEach clock clock_now) (sym read_is) ticks;
          store_faults_are = faults_are ∙ (nodes-ended.faults_are ∙ ap (faults_at store_faults store_calls rests out start.network.door start.stores)
              (sym status_is));
          store_calls_are = subst (AreCalled ring after.network.door.lifted steps (store_calls start.stores.now)) (sym calls_are)
              (subst (λ (ls : List Line). AreCalled ring after.network.door.lifted ls (store_calls start.stores.now) (store_calls after.stores.now))
              (sym steps_are)
              nodes-ended.calls_are);
        }
