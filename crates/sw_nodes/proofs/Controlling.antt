-- What a control request makes of the nodes: a device whose files were listed, and one that went back to the stores and came again, or
-- didn't.
use Rattle.std.proofs.Common.{◌≡◌, ℕ, ◌+◌, ◌^◌, Bool, true, false, MatchBool, Option, Some, Result, Ok, Err, IfOk, IfErr}
use Rattle.std.proofs.Common.{OnErr, OnOk, refl, sym}
use Rattle.std.proofs.Common.{◌∙◌}
use Rattle.std.proofs.Common.{ap, subst, inl, inr, ◌⊎◌, arith, MutBor}
use Rattle.sw_message.specs.declared.request.Request.{Request}
use Rattle.sw_message.specs.declared.response.Response.{Response}
use Rattle.sw_object_server.specs.Replies.{bare}
use Rattle.sw_control.specs.Asking.{IsControl, IsPlaced, is_control}
use Rattle.sw_control.specs.declared.asking.Control.TheVariants as controls
use Rattle.sw_control.specs.declared.replication.Replication.{Replication}
use Rattle.sw_control.specs.declared.row_push.RowPush.{RowPush}
use Rattle.sw_core.proofs.Anew.{restarts}
use Rattle.sw_machine.proofs.Honesty.{honest-leaving}
use Rattle.sw_machine.specs.Doors.{RunsOnLeaving}
use Rattle.sw_core.specs.Listing.{is_failed}
use Rattle.sw_core.specs.Worlds.{KeeperSeen, AllNodes, sight_of}
use Rattle.sw_outside.specs.declared.errors.NoMemory.{NoMemory}
use Rattle.sw_peer.specs.Sights.{Restarts, Sight}
use Rattle.sw_ring.specs.declared.ring.Ring.{Ring}
use Rattle.sw_session.specs.declared.server.ServerFault.{ServerFault}
use Rattle.sw_steps.proofs.RowRunning.{rows-over-nodes, row_pushes_run}
use Rattle.sw_steps.proofs.Running.{over-nodes, pushing_runs}
use Rattle.sw_pass.specs.Rings.{replicas_in}
use Rattle.sw_volume.specs.Tree.{Folders}
use Rattle.sw_volume.specs.Volume.{raised_by}
use Rattle.sw_nodes.proofs.Calming.{push-calm}
use Rattle.sw_nodes.proofs.Keeping.{listed-runs, restart-runs, runs-itself}
use Rattle.sw_nodes.proofs.Readying.{ready-of}
use Rattle.sw_nodes.proofs.RowCalming.{rows-calm}
use Rattle.sw_nodes.proofs.Serving.{goes_on}
use Rattle.sw_nodes.proofs.Restarting.{listed-lines, no-line, none-called, once-called, restart-lines, some_is}
use Rattle.sw_nodes.specs.Restarts.{restarts_in}
use Rattle.sw_nodes.specs.Nodes.{FailsToStart, IsReady, NodesAnswer, NodesHalt, faults_by}
use Rattle.sw_nodes.specs.Server.{AreRowsPushed, IsControlDone, IsControlled, IsFiled, IsReplicated, IsRestarted, MayAnswer}

-- ---- what a control request did

pub on_true : (X Y : Type 0) (b : Bool) → b ≡ true → X → MatchBool b X Y
on_true X Y true is x = x
on_true X Y false is x = cc

module _ {V K : Type 0} (tells : V → Bool) (files : V → Folders) (faults : V → ℕ) (keeps : KeeperSeen K) where
  abbrev pub see : AllNodes V K → Sight
  see w = sight_of tells files faults keeps w

  -- memory ran out before anything was done
  wanted : (ring : Ring) (w after : AllNodes V K) (request : Request) (moment : ℕ) (response : Response) → is_control request.path ≡ true
      → after ≡ w → response ≡ bare 500
      → MayAnswer tells files faults keeps ring w request moment response after
  wanted ring w after request moment response is same reply = record {
    answers = on_true _ _ (is_control request.path) is (inr (same, reply));
    nodes = ap (λ (x : AllNodes V K). (see x).nodes) same;
    runs = honest-leaving ring.secrets (replicas_in ring) (see w) (see after)
        (subst (λ (x : AllNodes V K). RunsOnLeaving (see w) (see x)) (sym same) (runs-itself (see w)));
  }

  -- the files of a device were listed
  may_list : (ring : Ring) (w after : AllNodes V K) (request : Request) (moment : ℕ) (response : Response) (device : ℕ) → is_control request.path ≡ true
      → IsControl ring request (controls.Files device) → IsFiled tells files faults keeps device w response after ⊎ ((after ≡ w) × (response ≡ bare 500))
      → MayAnswer tells files faults keeps ring w request moment response after
  may_list ring w after request moment response device is asked (inl filed) = record {
    answers = on_true _ _ (is_control request.path) is (inl (controls.Files device, asked, filed));
    nodes = filed.moves.nodes;
    runs = honest-leaving ring.secrets (replicas_in ring) (see w) (see after) (listed-runs device (is_failed filed.listed) (see w) (see after) filed.moves);
  }
  may_list ring w after request moment response device is asked (inr same) = wanted ring w after request moment response is same.0 same.1

  -- a device was restarted
  may_restart : (ring : Ring) (w after : AllNodes V K) (request : Request) (moment : ℕ) (response : Response) (device : ℕ) → is_control request.path ≡ true
      → IsControl ring request (controls.Restart device)
      → IsControlDone tells files faults keeps ring w (controls.Restart device) response after ⊎ ((after ≡ w) × (response ≡ bare 500))
      → MayAnswer tells files faults keeps ring w request moment response after
  may_restart ring w after request moment response device is asked (inl done) =
      let again : IsRestarted tells files faults keeps device w after = done.0 in
      let begun : Restarts device (see w) (see after) =
      restarts tells files faults keeps w again.mid after device again.given again.up.whole again.up.is_device again.up again.down in
      record {
        answers = on_true _ _ (is_control request.path) is (inl (controls.Restart device, asked, done));
        nodes = begun.nodes;
        runs = honest-leaving ring.secrets (replicas_in ring) (see w) (see after) (restart-runs device (see w) (see after) refl begun);
      }
  may_restart ring w after request moment response device is asked (inr same) = wanted ring w after request moment response is same.0 same.1

  -- listing files leaves the nodes as ready as they were
  ready_still : {S : Type 0} (out : S → ℕ → ℕ → Bool) (ring : Ring) (w after : AllNodes V K) (stores : S) (device : ℕ) (response : Response) →
      IsReady out ring w stores
      → IsFiled tells files faults keeps device w response after ⊎ ((after ≡ w) × (response ≡ bare 500)) → IsReady out ring after stores
  ready_still out ring w after stores device response ready (inl filed) =
      ready-of out ring after stores (filed.same.lifted ∙ ready.whole) (filed.moves.nodes ∙ ready.nodes) ready.are_out
  ready_still out ring w after stores device response ready (inr same) = subst (λ (x : AllNodes V K). IsReady out ring x stores) (sym same.0) ready

  -- and leaves no line of a restart
  list_lines : (w after : AllNodes V K) (device : ℕ) (response : Response)
      → IsFiled tells files faults keeps device w response after ⊎ ((after ≡ w) × (response ≡ bare 500)) → restarts_in after.lines ≡ restarts_in w.lines + 0
  list_lines w after device response (inl filed) = listed-lines tells files faults keeps w after device response filed
  list_lines w after device response (inr same) = no-line w.lines after.lines (ap (λ (x : AllNodes V K). x.lines) same.0)

  -- ---- a push

  -- a partition was pushed
  may_push : (ring : Ring) (w after : AllNodes V K) (request : Request) (moment : ℕ) (response : Response) (asked : Replication) → is_control request.path ≡
      true
      → IsControl ring request (controls.Replicate asked) → IsPlaced ring (controls.Replicate asked)
      → IsReplicated tells files faults keeps asked w response after → MayAnswer tells files faults keeps ring w request moment response after
  may_push ring w after request moment response asked is asks placed done = record {
    answers = on_true _ _ (is_control request.path) is (inl (controls.Replicate asked, asks, done));
    nodes = over-nodes asked.from asked.to asked.part asked.acts (see w) done.outcome (see after) done.pushed;
    runs = honest-leaving ring.secrets (replicas_in ring) (see w) (see after)
        (pushing_runs asked.from asked.to asked.part asked.acts (see w) done.outcome (see after) done.pushed placed.2 refl);
  }

  -- and leaves no line of a restart
  push_lines : (w after : AllNodes V K) (asked : Replication) (response : Response) → IsReplicated tells files faults keeps asked w response after
      → restarts_in after.lines ≡ restarts_in w.lines + 0
  push_lines w after asked response done =
      let calm : Some (restarts_in after.lines) ≡ Some (restarts_in w.lines) =
      push-calm asked.from asked.to asked.part _ done.outcome _ done.pushed.pushes in
      let e : restarts_in after.lines ≡ restarts_in w.lines = some_is calm in
      omega (arith, e)

  -- the rows of a container were pushed
  may_push_rows : (ring : Ring) (w after : AllNodes V K) (request : Request) (moment : ℕ) (response : Response) (asked : RowPush)
      → is_control request.path ≡ true → IsControl ring request (controls.PushRows asked) → IsPlaced ring (controls.PushRows asked)
      → AreRowsPushed tells files faults keeps ring asked w response after → MayAnswer tells files faults keeps ring w request moment response after
  may_push_rows ring w after request moment response asked is asks placed done = record {
    answers = on_true _ _ (is_control request.path) is (inl (controls.PushRows asked, asks, done));
    nodes = rows-over-nodes ring asked.from asked.to asked.place asked.acts (see w) done.outcome (see after) placed.2 done.pushed;
    runs = row_pushes_run ring asked.from asked.to asked.place asked.acts (see w) done.outcome (see after) done.pushed placed.2 refl;
  }

  -- and leaves no line of a restart
  row_push_lines : (ring : Ring) (w after : AllNodes V K) (asked : RowPush) (response : Response)
      → AreRowsPushed tells files faults keeps ring asked w response after → restarts_in after.lines ≡ restarts_in w.lines + 0
  row_push_lines ring w after asked response done =
      let calm : Some (restarts_in after.lines) ≡ Some (restarts_in w.lines) =
      rows-calm asked.from asked.to asked.place ring _ done.outcome _ done.pushed.pushes in
      let e : restarts_in after.lines ≡ restarts_in w.lines = some_is calm in
      omega (arith, e)

  -- the trail was told, or there was no memory for its text
  pub trail_told : (ring : Ring) (w : AllNodes V K) (request : Request) (told : Result Response NoMemory) (response : Response)
      → IsControl ring request controls.Trail
      → IfOk told (λ reply. IsControlDone tells files faults keeps ring w controls.Trail reply w)
      → IfOk told (λ reply. response ≡ reply) → OnErr told (response ≡ bare 500) → IsControlled tells files faults keeps ring w request response w
  trail_told ring w request (Ok reply) response asked done same other =
      inl (controls.Trail, asked, subst (λ (r : Response). IsControlDone tells files faults keeps ring w controls.Trail r w) (sym same) done)
  trail_told ring w request (Err wanting) response asked done same other = inr (refl, other)

  -- a control request was answered, and nothing was done
  pub done_nothing : {S : Type 0} (store_faults store_calls : S → ℕ) (out : S → ℕ → ℕ → Bool) (ring : Ring) (w : AllNodes V K) (stores : MutBor S)
      (request : Request) (moment : ℕ) (response : Response) → is_control request.path ≡ true → IsReady out ring w stores.now
      → IsControlled tells files faults keeps ring w request response w
      → NodesAnswer tells files faults keeps store_faults store_calls out ring ring w w stores stores request moment response
  done_nothing store_faults store_calls out ring w stores request moment response is ready done = record {
    ring_is = refl;
    may = record {
      answers = on_true _ _ (is_control request.path) is done;
      nodes = refl;
      runs = honest-leaving ring.secrets (replicas_in ring) (see w) (see w) (runs-itself (see w));
    };
    faults_are = refl;
    gained = 0;
    gains = no-line w.lines w.lines refl;
    calls_are = none-called (2 ^ ring.lock_bits) (store_calls stores.now) (store_calls stores.now) refl;
    same_stores = refl;
    ready = ready;
  }

  module _ {S : Type 0} (store_faults store_calls : S → ℕ) (out : S → ℕ → ℕ → Bool) (ring ring_now : Ring) (w after : AllNodes V K)
      (stores stores_now : MutBor S) (request : Request) where
    pub was_pushed : (moment : ℕ) (response : Response) (asked : Replication) → is_control request.path ≡ true
        → IsControl ring request (controls.Replicate asked) → IsPlaced ring (controls.Replicate asked)
        → ring_now ≡ ring → stores_now ≡ stores → IsReady out ring w stores.now → IsReplicated tells files faults keeps asked w response after
        → NodesAnswer tells files faults keeps store_faults store_calls out ring ring_now w after stores stores_now request moment response
    was_pushed moment response asked is asks placed ring_is stores_are ready done =
        let may = may_push ring w after request moment response asked is asks placed done in
        record {
          ring_is = ring_is;
          may = may;
          faults_are = ap (λ (s : MutBor S). store_faults s.now) stores_are;
          gained = 0;
          gains = push_lines w after asked response done;
          calls_are = none-called (2 ^ ring.lock_bits) (store_calls stores.now) (store_calls stores_now.now)
              (ap (λ (s : MutBor S). store_calls s.now) stores_are);
          same_stores = ap (λ (s : MutBor S). s.ghost_name) stores_are;
          ready = subst (λ (r : Ring). IsReady out r after stores_now.now) (sym ring_is)
              (subst (λ (s : MutBor S). IsReady out ring after s.now) (sym stores_are)
              (goes_on tells files faults keeps out ring w after stores.now ready may.nodes));
        }

    pub rows_were_pushed : (moment : ℕ) (response : Response) (asked : RowPush) → is_control request.path ≡ true
        → IsControl ring request (controls.PushRows asked) → IsPlaced ring (controls.PushRows asked)
        → ring_now ≡ ring → stores_now ≡ stores → IsReady out ring w stores.now → AreRowsPushed tells files faults keeps ring asked w response after
        → NodesAnswer tells files faults keeps store_faults store_calls out ring ring_now w after stores stores_now request moment response
    rows_were_pushed moment response asked is asks placed ring_is stores_are ready done =
        let may = may_push_rows ring w after request moment response asked is asks placed done in
        record {
          ring_is = ring_is;
          may = may;
          faults_are = ap (λ (s : MutBor S). store_faults s.now) stores_are;
          gained = 0;
          gains = row_push_lines ring w after asked response done;
          calls_are = none-called (2 ^ ring.lock_bits) (store_calls stores.now) (store_calls stores_now.now)
              (ap (λ (s : MutBor S). store_calls s.now) stores_are);
          same_stores = ap (λ (s : MutBor S). s.ghost_name) stores_are;
          ready = subst (λ (r : Ring). IsReady out r after stores_now.now) (sym ring_is)
              (subst (λ (s : MutBor S). IsReady out ring after s.now) (sym stores_are)
              (goes_on tells files faults keeps out ring w after stores.now ready may.nodes));
        }

    pub row_push_ready : (asked : RowPush) (response : Response) → IsPlaced ring (controls.PushRows asked) → ring_now ≡ ring → stores_now ≡ stores
        → IsReady out ring w stores.now → AreRowsPushed tells files faults keeps ring asked w response after → IsReady out ring_now after stores_now.now
    row_push_ready asked response placed ring_is stores_are ready done =
        subst (λ (r : Ring). IsReady out r after stores_now.now) (sym ring_is)
        (subst (λ (s : MutBor S). IsReady out ring after s.now) (sym stores_are)
        (goes_on tells files faults keeps out ring w after stores.now ready
        (rows-over-nodes ring asked.from asked.to asked.place asked.acts (see w) done.outcome (see after) placed.2 done.pushed)))

    pub push_ready : (asked : Replication) (response : Response) → IsControl ring request (controls.Replicate asked) → ring_now ≡ ring → stores_now ≡ stores
        → IsReady out ring w stores.now → IsReplicated tells files faults keeps asked w response after → IsReady out ring_now after stores_now.now
    push_ready asked response asks ring_is stores_are ready done =
        subst (λ (r : Ring). IsReady out r after stores_now.now) (sym ring_is)
        (subst (λ (s : MutBor S). IsReady out ring after s.now) (sym stores_are)
        (goes_on tells files faults keeps out ring w after stores.now ready
        (over-nodes asked.from asked.to asked.part asked.acts (see w) done.outcome (see after) done.pushed)))

    pub files_listed : (moment : ℕ) (response : Response) (device : ℕ) → is_control request.path ≡ true → IsControl ring request (controls.Files device)
        → ring_now ≡ ring → stores_now ≡ stores → IsReady out ring w stores.now
        → IsFiled tells files faults keeps device w response after ⊎ ((after ≡ w) × (response ≡ bare 500))
        → NodesAnswer tells files faults keeps store_faults store_calls out ring ring_now w after stores stores_now request moment response
    files_listed moment response device is asked ring_is stores_are ready filed = record {
      ring_is = ring_is;
      may = may_list ring w after request moment response device is asked filed;
      faults_are = ap (λ (s : MutBor S). store_faults s.now) stores_are;
      gained = 0;
      gains = list_lines w after device response filed;
      calls_are = none-called (2 ^ ring.lock_bits) (store_calls stores.now) (store_calls stores_now.now)
          (ap (λ (s : MutBor S). store_calls s.now) stores_are);
      same_stores = ap (λ (s : MutBor S). s.ghost_name) stores_are;
      ready = subst (λ (r : Ring). IsReady out r after stores_now.now) (sym ring_is)
          (subst (λ (s : MutBor S). IsReady out ring after s.now) (sym stores_are) (ready_still out ring w after stores.now device response ready filed));
    }

    pub came_again : (moment : ℕ) (result : Result Response ServerFault) (device : ℕ) → is_control request.path ≡ true
        → IsControl ring request (controls.Restart device) → ring_now ≡ ring → stores_now.ghost_name ≡ stores.ghost_name
        → OnOk result (store_faults stores_now.now ≡ store_faults stores.now) → OnOk result (IsReady out ring_now after stores_now.now)
        → IfOk result (λ response.
        (IsControlDone tells files faults keeps ring w (controls.Restart device) response after
        × (store_calls stores_now.now ≡ raised_by (2 ^ ring.lock_bits) (store_calls stores.now)))
        ⊎ ((after ≡ w) × (response ≡ bare 500) × (store_calls stores_now.now ≡ store_calls stores.now)))
        → IfOk result (λ response. NodesAnswer tells files faults keeps store_faults store_calls out ring ring_now w after stores stores_now request moment
        response)
    came_again moment (Ok response) device is asked ring_is same kept ready (inl done) = record {
      ring_is = ring_is;
      may = may_restart ring w after request moment response device is asked (inl done.0);
      faults_are = kept;
      gained = 1;
      gains = restart-lines tells files faults keeps w after device done.0.0;
      calls_are = once-called (2 ^ ring.lock_bits) (store_calls stores.now) (store_calls stores_now.now) done.1;
      same_stores = same;
      ready = ready;
    }
    came_again moment (Ok response) device is asked ring_is same kept ready (inr none) = record {
      ring_is = ring_is;
      may = may_restart ring w after request moment response device is asked (inr (none.0, none.1));
      faults_are = kept;
      gained = 0;
      gains = no-line w.lines after.lines (ap (λ (x : AllNodes V K). x.lines) none.0);
      calls_are = none-called (2 ^ ring.lock_bits) (store_calls stores.now) (store_calls stores_now.now) none.2;
      same_stores = same;
      ready = ready;
    }
    came_again moment (Err fault) device is asked ring_is same kept ready done = tt

    pub stayed_away : (rests : S → ℕ → ℕ → Option (V × K)) (result : Result Response ServerFault) (device : ℕ)
        → is_control request.path ≡ true → IsControl ring request (controls.Restart device) → ring_now ≡ ring → stores_now.ghost_name ≡ stores.ghost_name
        → IfErr result (λ fault. store_faults stores_now.now ≡ faults_by (store_faults stores.now) fault)
        → IfErr result (λ fault. FailsToStart tells files faults keeps store_calls rests out ring device w after stores.now stores_now.now)
        → IfErr result (λ fault. NodesHalt tells files faults keeps store_faults store_calls rests out ring ring_now w after stores stores_now request fault)
    stayed_away rests (Ok response) device is asked ring_is same counts fails = tt
    stayed_away rests (Err fault) device is asked ring_is same counts fails = record {
      ring_is = ring_is;
      may = record { control = is; device = device; asked = asked; given = fails.given; up = fails.up };
      given = fails.resting;
      home = fails.home;
      faults_are = counts;
      tried = fails.tried;
      most = fails.most;
      calls_are = fails.calls_are;
      same_stores = same;
    }
