-- What connections that were served leave: a run of the machine, files that stand for what reached in it, and keepers that have its tables.
use Rattle.std.proofs.Common.{◌≡◌, ℕ, zero, suc, ◌<◌, Bool, true, false, not, ◌&&◌, List, [], ◌∷◌, length, Option, None, Some, Result, Ok, Err, inl}
use Rattle.std.proofs.Common.{inr}
use Rattle.std.proofs.Common.{refl, sym, ◌∙◌, ap, subst}
use Rattle.std.specs.Bool.{⊤}
use Rattle.std.specs.List.{All}
use Rattle.sw_container_locks.specs.Slots.{AreLocks}
use Rattle.sw_hashpath.specs.declared.place.Place.{Place}
use Rattle.sw_machine.proofs.Going.{leaving-join}
use Rattle.sw_machine.specs.Doors.{RunsOnLeaving, StandsFor}
use Rattle.sw_machine.specs.Machine.{Machine, RunLine, Runs, machine_of}
use Rattle.sw_core.specs.Worlds.{AllNodes, AreContainers, IsWorld, KeeperSeen, SlotTellsOn, nodes_of, opened, sight_of}
use Rattle.sw_object_steps.specs.Journals.{Hash}
use Rattle.sw_peer.specs.Sights.{Sight}
use Rattle.sw_quiet.specs.Quiet.{quiet_sight_of}
use Rattle.sw_ring.specs.declared.ring.Ring.{Ring}
use Rattle.sw_volume.specs.Tree.{Folders}
use Rattle.sw_quiet.proofs.Trails.{lifting-restarts}
use Rattle.sw_cluster.proofs.Connecting.{connection-goes}
use Rattle.sw_nodes.proofs.Keeping.{restart-runs, runs-itself}
use Rattle.sw_nodes.proofs.Serving.{goes_on}
use Rattle.sw_cluster.proofs.Storing.{AllRest, AllTellOn, all-tell-on, kept, others, rests-before, stored, tell-before}
use Rattle.sw_cluster.specs.Ending.{HasNoOthers, IsKept, IsStored}
use Rattle.sw_cluster.specs.Connections.{IsConnection}
use Rattle.sw_cluster.specs.Leaving.{AreLeft, IsOut}
use Rattle.sw_nodes.specs.Nodes.{IsReady, out_but, places_at, places_of}
use Rattle.sw_cluster.specs.Rounds.{EndsServing, HasServed, EndsConnections, RestartsDevice, RestartsFirst, Round, ServesAll, ServesOne}
use Rattle.sw_cluster.specs.Told.{Counts, DoorsTold, Input, Output}
use Rattle.sw_cluster.specs.Rounds.{StopsRestarting, StopsWaiting, read_in, written_in}
use Rattle.sw_cluster.specs.declared.rounds.ServeFault.{ServeFault}
use Rattle.sw_cluster.specs.Limits.{serve_bytes}
use Rattle.sw_cluster.specs.declared.rounds.ServeFault.TheVariants as serve_faults

module _ {V K : Type 0} (tells : V → Bool) (files : V → Folders) (faults : V → ℕ) (keeps : KeeperSeen K) (ring : Ring) where
  abbrev pub see : AllNodes V K → Sight
  see w = quiet_sight_of tells files faults keeps w

  -- ---- a run goes on

  -- the nodes are those that were there, and whatever machine they stood for goes on to them as they are then
  pub record Goes (w after : AllNodes V K) : Type 0 where
    pub nodes : (see after).nodes ≡ (see w).nodes
    pub runs : RunsOnLeaving (see w) (see after)

  pub goes-same : (w after : AllNodes V K) → after ≡ w → Goes w after
  goes-same w after same = subst (Goes w) (sym same) (record { nodes = refl; runs = runs-itself (see w) })

  pub goes-join : (a b c : AllNodes V K) → Goes a b → Goes b c → Goes a c
  goes-join a b c p q = record { nodes = q.nodes ∙ p.nodes; runs = leaving-join (see a) (see b) (see c) p.runs q.runs }

  pub served-one : (w after : AllNodes V K) (moment : ℕ) (source : Input) (sink : Output) (status : ℕ)
      → IsConnection see ring moment w source sink after status → Goes w after
  served-one w after moment source sink status c =
      let keeps = connection-goes see ring moment w source sink after status c in
      record { nodes = keeps.nodes; runs = keeps.runs refl }

  restarted-goes : (w after : AllNodes V K) (device : ℕ) → RestartsDevice tells files faults keeps ring device w after → Goes w after
  restarted-goes w after device again =
      let restarts = lifting-restarts tells files faults keeps w again.mid after device again.given again.up again.down in
      record { nodes = restarts.nodes; runs = restart-runs device (see w) (see after) refl restarts }

  pub first-go : (n : ℕ) (w after : AllNodes V K) → RestartsFirst tells files faults keeps ring n w after → Goes w after
  first-go zero w after same = goes-same w after same
  first-go (suc n) w after again = goes-join w again.0 after (first-go n w again.0 again.1) (restarted-goes again.0 after n again.2)

  pub all-go : (w after : AllNodes V K) (rounds : List Round) → ServesAll tells files faults keeps ring w rounds after → Goes w after
  all-go w after [] same = goes-same w after same
  all-go w after (round ∷ rounds) serves =
      goes-join w serves.1 after
      (goes-join w serves.0 serves.1 (served-one w serves.0 round.moment _ _ _ serves.2.answered)
      (first-go (length ring.devices) serves.0 serves.1 serves.3))
      (all-go serves.1 after rounds serves.4)

  module _ (began after : AllNodes V K) (a b : DoorsTold) (t u : Option (List ℕ)) (s x : Counts) (connections : ℕ) where
    waiting-goes : StopsWaiting tells files faults keeps ring connections began after a b t u s x → Goes began after
    waiting-goes w = all-go began after w.rounds w.serves

    restarting-goes : StopsRestarting tells files faults keeps ring connections began after a b t u s x → Goes began after
    restarting-goes w =
        goes-join began w.then after (all-go began w.then w.rounds w.serves)
        (goes-join w.then w.served after (served-one w.then w.served w.last.moment _ _ _ w.one.answered) (first-go w.device w.served after w.restarted))

    served-goes : (result : Result ⊤ ServeFault) → EndsConnections tells files faults keeps ring connections began after a b t u s x result → Goes began after
    served-goes (Ok done) served = all-go began after served.rounds served.serves
    served-goes (Err serve_faults.Door) served = waiting-goes served.0
    served-goes (Err serve_faults.Store) served = restarting-goes served.0
    served-goes (Err serve_faults.NoMemory) (inl waits, d, e) = waiting-goes waits
    served-goes (Err serve_faults.NoMemory) (inr stops, d, e) = restarting-goes stops
    served-goes (Err serve_faults.Write) served = absurd served

  pub ends-go : (port connections : ℕ) (began after : AllNodes V K) (a b : DoorsTold) (out : Output) (t u : Option (List ℕ)) (s x : Counts)
      (ended : Result ⊤ ServeFault) → EndsServing tells files faults keeps ring port connections began after a b out t u s x ended → Goes began after
  ends-go port connections began after a b out t u s x ended (inl mute) = goes-same began after mute.nothing_came
  ends-go port connections began after a b out t u s x ended (inr over) = served-goes began after _ b t u s x connections over.came over.served

  -- the nodes are ready for what comes behind a connection
  pub ready-after : {S : Type 0} (out : S → ℕ → ℕ → Bool) (w after : AllNodes V K) (stores : S) (round : Round) → IsReady out ring w stores
      → ServesOne tells files faults keeps ring w round after → IsReady out ring after stores
  ready-after out w after stores round ready one =
      goes_on tells files faults keeps out ring w after stores ready (connection-goes see ring round.moment w (read_in round) (written_in round) after
      round.finished.status one.answered).nodes

  -- ---- how the nodes are left

  swap-and : (a b : Bool) → (not a && b) ≡ (b && not a)
  swap-and true true = refl
  swap-and true false = refl
  swap-and false true = refl
  swap-and false false = refl

  none-lifted : (device : ℕ) → None ≡ Some device → ⊥
  none-lifted device is = cc

  some-is : {A : Type 0} {x y : A} → Some x ≡ Some y → x ≡ y
  some-is is = cc

  module _ {S : Type 0} (store_calls : S → ℕ) (rests : S → ℕ → ℕ → Option (V × K)) (out : S → ℕ → ℕ → Bool) where
    -- what giving their volumes and keepers back asks for
    pub record CanBeGiven (w : AllNodes V K) (stores : S) : Type 0 where
      pub devices : w.devices ≡ length ring.devices
      pub lock_bits : w.lock_bits ≡ ring.lock_bits
      pub lifted : (device : ℕ) → w.lifted ≡ Some device → device < length ring.devices
      pub are_out : (d s : ℕ) → out stores d s ≡ out_but ring w.lifted d s

    whole-given : (w : AllNodes V K) (stores : S) → IsReady out ring w stores → CanBeGiven w stores
    whole-given w stores ready = record {
      devices = ready.devices;
      lock_bits = ready.lock_bits;
      lifted = λ device is. absurd (none-lifted device (sym ready.whole ∙ is));
      are_out = λ d s. ready.are_out d s ∙ sym (ap (λ (o : Option ℕ). out_but ring o d s) ready.whole);
    }

    out-given : (whole w : AllNodes V K) (stores : S) → IsOut tells files faults keeps store_calls rests out ring whole w stores → CanBeGiven w stores
    out-given whole w stores is =
        let up = is.fails.up in
        let lifted : w.lifted ≡ Some is.device = ap (λ (x : AllNodes V K). x.lifted) up.rest in
        record {
          devices = ap (λ (x : AllNodes V K). x.devices) up.rest ∙ is.ready.devices;
          lock_bits = ap (λ (x : AllNodes V K). x.lock_bits) up.rest ∙ is.ready.lock_bits;
          lifted = λ device same. subst (λ (d : ℕ). d < length ring.devices) (some-is (sym lifted ∙ same))
              (subst (λ (n : ℕ). is.device < n) is.ready.devices up.is_device);
          are_out = λ d s. is.fails.home d s ∙ (ap (λ (b : Bool). not (places_at ring is.device d s) && b) (is.ready.are_out d s)
              ∙ (swap-and (places_at ring is.device d s) (places_of ring d s) ∙ sym (ap (λ (o : Option ℕ). out_but ring o d s) lifted)));
        }

    pub left-given : (whole w : AllNodes V K) (stores : S) → AreLeft tells files faults keeps store_calls rests out ring whole w stores → CanBeGiven w stores
    left-given whole w stores (inl (same, ready)) =
        subst (λ (x : AllNodes V K). CanBeGiven x stores) (sym same) (whole-given whole stores ready)
    left-given whole w stores (inr is) = out-given whole w stores is

    -- ---- what rests

    module _ (began whole w : AllNodes V K) (stores : S) (rests_now : ℕ → ℕ → Option (V × K)) (is : IsWorld w)
        (resting : AllRest tells files faults keeps ring rests_now w)
        (same_out : (device : ℕ) → w.lifted ≡ Some device → (d s : ℕ) → places_at ring device d s ≡ true → rests_now d s ≡ rests stores d s)
        (told_on : AllTellOn tells files faults keeps ring w) (lines : List RunLine) (machine : Machine)
        (run : Runs (nodes_of (length ring.devices) ring.lock_bits ring.power ring.secrets) (machine_of (sight_of tells files faults keeps began)) lines
        machine)
        (stands : StandsFor (sight_of tells files faults keeps whole) machine) where
      abbrev AllStored : Type 0
      AllStored = (device : ℕ) (hash : Hash) → device < length ring.devices → IsStored tells files faults keeps ring began machine rests_now device hash

      abbrev AllKept : Type 0
      AllKept = (device : ℕ) (place : Place) → device < length ring.devices → IsKept tells files faults keeps ring began machine rests_now device place

      pub left-stored : AreLeft tells files faults keeps store_calls rests out ring whole w stores → AllStored
      left-stored (inl (same, ready)) =
          stored tells files faults keeps ring began whole (subst (λ (x : AllNodes V K). IsWorld x) same is) ready.whole ready.nodes lines machine run rests_now
          (subst (AllRest tells files faults keeps ring rests_now) same resting) (subst (AllTellOn tells files faults keeps ring) same told_on) stands.objects
      left-stored (inr gone) =
          stored tells files faults keeps ring began whole gone.fails.up.world gone.fails.up.whole gone.ready.nodes lines machine run rests_now
          (rests-before tells files faults keeps ring whole w gone.ready.lock_bits gone.device gone.fails.given gone.fails.up (rests stores) rests_now
          gone.fails.resting resting same_out)
          (tell-before tells files faults keeps ring whole w gone.ready.lock_bits gone.device gone.fails.given gone.fails.up told_on) stands.objects

      pub left-kept : AreLeft tells files faults keeps store_calls rests out ring whole w stores → AllKept
      left-kept (inl (same, ready)) =
          kept tells files faults keeps ring began whole (subst (λ (x : AllNodes V K). IsWorld x) same is) ready.whole ready.nodes lines machine run rests_now
          (subst (AllRest tells files faults keeps ring rests_now) same resting) (subst (AllTellOn tells files faults keeps ring) same told_on)
          stands.containers
      left-kept (inr gone) =
          kept tells files faults keeps ring began whole gone.fails.up.world gone.fails.up.whole gone.ready.nodes lines machine run rests_now
          (rests-before tells files faults keeps ring whole w gone.ready.lock_bits gone.device gone.fails.given gone.fails.up (rests stores) rests_now
          gone.fails.resting resting same_out)
          (tell-before tells files faults keeps ring whole w gone.ready.lock_bits gone.device gone.fails.given gone.fails.up told_on) stands.containers

      pub left-others : AreLeft tells files faults keeps store_calls rests out ring whole w stores → HasNoOthers ring machine
      left-others (inl (same, ready)) =
          others tells files faults keeps ring began whole (subst (λ (x : AllNodes V K). IsWorld x) same is) ready.whole ready.nodes lines machine run rests_now
          (subst (AllRest tells files faults keeps ring rests_now) same resting) (subst (AllTellOn tells files faults keeps ring) same told_on) stands.objects
          stands.containers
      left-others (inr gone) =
          others tells files faults keeps ring began whole gone.fails.up.world gone.fails.up.whole gone.ready.nodes lines machine run rests_now
          (rests-before tells files faults keeps ring whole w gone.ready.lock_bits gone.device gone.fails.given gone.fails.up (rests stores) rests_now
          gone.fails.resting resting same_out)
          (tell-before tells files faults keeps ring whole w gone.ready.lock_bits gone.device gone.fails.given gone.fails.up told_on) stands.objects
          stands.containers

  -- what was served, once the volumes and keepers were given back
  module _ {S : Type 0} (store_calls : S → ℕ) (rests : S → ℕ → ℕ → Option (V × K)) (out : S → ℕ → ℕ → Bool) (parts : List (V × K))
      (whole w : AllNodes V K) (stores : S)
      (left : AreLeft tells files faults keeps store_calls rests out ring whole w stores) (goes : Goes (opened serve_bytes ring parts) whole)
      (rests_now : ℕ → ℕ → Option (V × K)) (is : IsWorld w)
      (resting : AllRest tells files faults keeps ring rests_now w)
      (same_out : (device : ℕ) → w.lifted ≡ Some device → (d s : ℕ) → places_at ring device d s ≡ true → rests_now d s ≡ rests stores d s)
      (told_on : All (SlotTellsOn tells files faults) w.slots) (there : AreContainers w.devices w.lock_bits w.lifted w.containers)
      (locks : AreLocks keeps.tells w.containers) where
    pub has-served : HasServed tells files faults keeps ring (opened serve_bytes ring parts) whole rests_now
    has-served =
        let went = goes.runs (machine_of (see (opened serve_bytes ring parts))) (record { objects = refl; containers = refl }) in
        let on = all-tell-on tells files faults keeps ring w told_on there locks in
        let stands : StandsFor (sight_of tells files faults keeps whole) went.2.after =
        record { objects = went.2.stands.objects; containers = went.2.stands.containers } in
        record {
          lines = went.0;
          machine = went.2.after;
          run = went.2.run;
          leaves = went.1;
          comes = goes.runs;
          stands = went.2.stands;
          others = left-others store_calls rests out (opened serve_bytes ring parts) whole w stores rests_now is resting same_out
              on went.0 went.2.after went.2.run stands left;
          stored = left-stored store_calls rests out (opened serve_bytes ring parts) whole w stores rests_now is resting same_out
              on went.0 went.2.after went.2.run stands left;
          kept = left-kept store_calls rests out (opened serve_bytes ring parts) whole w stores rests_now is resting same_out
              on went.0 went.2.after went.2.run stands left;
        }
