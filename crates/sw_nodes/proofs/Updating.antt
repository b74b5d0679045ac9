-- What an update and a read of records make of the nodes.
use Rattle.std.proofs.Common.{◌≡◌, ℕ, ◌+◌, ◌^◌, Bool, true, Result, Ok, Err, MutBor, refl, sym, ap, subst, inl, arith}
use Rattle.std.specs.List.{range_with_len}
use Rattle.std.specs.declared.alloc.Global.{Global}
use Rattle.std.specs.declared.vec.Vec.{Vec}
use Rattle.sw_control.specs.Asking.{IsControl, is_control}
use Rattle.sw_control.specs.declared.asking.Control.TheVariants as controls
use Rattle.sw_control.specs.declared.update.Update.{Update}
use Rattle.sw_core.proofs.Containing.{place-fits}
use Rattle.sw_core.specs.Worlds.{KeeperSeen, AllNodes, is_hashed_place, sight_of}
use Rattle.sw_hashdir.proofs.Stored.{hashed-is}
use Rattle.sw_hashdir.specs.Steps.{IsHashed}
use Rattle.sw_hashpath.specs.declared.secrets.Secrets.{Secrets}
use Rattle.sw_machine.proofs.Honesty.{honest-leaving}
use Rattle.sw_message.specs.declared.request.Request.{Request}
use Rattle.sw_message.specs.declared.response.Response.{Response}
use Rattle.sw_object_steps.specs.declared.dir_fault.DirFault.{DirFault}
use Rattle.sw_outside.specs.declared.errors.NoMemory.{NoMemory}
use Rattle.sw_peer.specs.Sights.{Nodes, Sight}
use Rattle.sw_pending.specs.declared.filed.Filed.{Filed}
use Rattle.sw_ring.specs.declared.ring.Ring.{Ring}
use Rattle.sw_steps.proofs.GoingBy.{GoesOnBy}
use Rattle.sw_steps.proofs.UpdateRunning.{reads-go, update-over-nodes, updates_run}
use Rattle.sw_pass.specs.Rings.{IsRingOf, replicas_in}
use Rattle.sw_updater.specs.Reading.{ArePending}
use Rattle.sw_volume.specs.Tree.{Folders}
use Rattle.sw_nodes.proofs.Calming.{IsCalm}
use Rattle.sw_nodes.proofs.Controlling.{on_true, see}
use Rattle.sw_nodes.proofs.Restarting.{none-called, some_is}
use Rattle.sw_nodes.proofs.Serving.{goes_on}
use Rattle.sw_nodes.proofs.UpdateCalming.{pending-calm, update-calm}
use Rattle.sw_nodes.specs.Nodes.{IsReady, NodesAnswer}
use Rattle.sw_nodes.specs.Restarts.{restarts_in}
use Rattle.sw_nodes.specs.Server.{ArePendingTold, IsUpdated, MayAnswer}

-- nodes that are ready are the ring's, for the updater
pub ring-nodes : {V K S : Type 0} (tells : V → Bool) (files : V → Folders) (faults : V → ℕ) (keeps : KeeperSeen K) (out : S → ℕ → ℕ → Bool) (ring : Ring)
    (w : AllNodes V K) (stores : S) → IsReady out ring w stores → IsRingOf ring (sight_of tells files faults keeps w).nodes
ring-nodes tells files faults keeps out ring w stores ready = record {
  devices = ap (λ (n : Nodes). n.devices) ready.nodes;
  lock_bits = ready.lock_bits;
  secrets = ready.secrets;
  named = λ name is.
      let plain : IsHashed ring.secrets name = record { hashed = sym is.hashed; good = is.good } in
      hashed-is w.secrets name (subst (λ (secrets : Secrets). IsHashed secrets name) (sym ready.secrets) plain);
  placed = λ place is.
      subst (λ (secrets : Secrets). is_hashed_place secrets place ≡ true) (sym ready.secrets) (place-fits ring.secrets place is.hashed is.good);
}

-- what reads of records leave goes on with a run
pending-goes : (ring : Ring) (device : ℕ) (s : Sight) (got : Result (Result (Vec Filed Global) DirFault) NoMemory) (t : Sight)
    → ArePending ring device s got t → GoesOnBy s t
pending-goes ring device s (Ok (Ok ordered)) t is = reads-go device (range_with_len 0 (2 ^ ring.lock_bits)) s (Ok is.0) t is.1
pending-goes ring device s (Ok (Err fault)) t is = reads-go device (range_with_len 0 (2 ^ ring.lock_bits)) s (Err fault) t is
pending-goes ring device s (Err wanting) t is = reads-go device (range_with_len 0 (2 ^ ring.lock_bits)) s (Ok is.0) t is.1

module _ {V K : Type 0} (tells : V → Bool) (files : V → Folders) (faults : V → ℕ) (keeps : KeeperSeen K) where
  -- where no restart is told, there is no line of one
  calm-lines : (w after : AllNodes V K) → IsCalm (see tells files faults keeps w) (see tells files faults keeps after)
      → restarts_in after.lines ≡ restarts_in w.lines + 0
  calm-lines w after calm =
      let e : restarts_in after.lines ≡ restarts_in w.lines = some_is calm in
      omega (arith, e)

  may_update : (ring : Ring) (w after : AllNodes V K) (request : Request) (moment : ℕ) (response : Response) (asked : Update) → is_control request.path ≡ true
      → IsControl ring request (controls.Update asked) → w.secrets ≡ ring.secrets → IsUpdated tells files faults keeps ring asked w response after
      → MayAnswer tells files faults keeps ring w request moment response after
  may_update ring w after request moment response asked is asks knows done = record {
    answers = on_true _ _ (is_control request.path) is (inl (controls.Update asked, asks, done));
    nodes = update-over-nodes ring asked.device asked.acts (see tells files faults keeps w) done.outcome (see tells files faults keeps after) knows
        done.updated;
    runs = updates_run ring asked.device asked.acts (see tells files faults keeps w) done.outcome (see tells files faults keeps after) done.updated knows refl;
  }

  may_tell_pending : (ring : Ring) (w after : AllNodes V K) (request : Request) (moment : ℕ) (response : Response) (device : ℕ)
      → is_control request.path ≡ true → IsControl ring request (controls.Pending device) → ArePendingTold tells files faults keeps ring device w response after
      → MayAnswer tells files faults keeps ring w request moment response after
  may_tell_pending ring w after request moment response device is asks done =
      let goes : GoesOnBy (see tells files faults keeps w) (see tells files faults keeps after) =
      pending-goes ring device (see tells files faults keeps w) done.got (see tells files faults keeps after) done.read in
      record {
        answers = on_true _ _ (is_control request.path) is (inl (controls.Pending device, asks, done));
        nodes = goes.nodes;
        runs = honest-leaving ring.secrets (replicas_in ring) (see tells files faults keeps w) (see tells files faults keeps after) (goes.runs refl);
      }

  module _ {S : Type 0} (store_faults store_calls : S → ℕ) (out : S → ℕ → ℕ → Bool) (ring ring_now : Ring) (w after : AllNodes V K)
      (stores stores_now : MutBor S) (request : Request) where
    -- nodes that are the same are ready
    pub ready-again : ring_now ≡ ring → stores_now ≡ stores → IsReady out ring w stores.now
        → (see tells files faults keeps after).nodes ≡ (see tells files faults keeps w).nodes → IsReady out ring_now after stores_now.now
    ready-again ring_is stores_are ready nodes =
        subst (λ (r : Ring). IsReady out r after stores_now.now) (sym ring_is)
        (subst (λ (s : MutBor S). IsReady out ring after s.now) (sym stores_are)
        (goes_on tells files faults keeps out ring w after stores.now ready nodes))

    -- a request was answered so, and no device restarted for it
    pub answered : (moment : ℕ) (response : Response) → MayAnswer tells files faults keeps ring w request moment response after
        → IsCalm (see tells files faults keeps w) (see tells files faults keeps after) → ring_now ≡ ring → stores_now ≡ stores → IsReady out ring w stores.now
        → NodesAnswer tells files faults keeps store_faults store_calls out ring ring_now w after stores stores_now request moment response
    answered moment response may calm ring_is stores_are ready = record {
      ring_is = ring_is;
      may = may;
      faults_are = ap (λ (s : MutBor S). store_faults s.now) stores_are;
      gained = 0;
      gains = calm-lines w after calm;
      calls_are = none-called (2 ^ ring.lock_bits) (store_calls stores.now) (store_calls stores_now.now)
          (ap (λ (s : MutBor S). store_calls s.now) stores_are);
      same_stores = ap (λ (s : MutBor S). s.ghost_name) stores_are;
      ready = ready-again ring_is stores_are ready may.nodes;
    }

    pub was_updated : (moment : ℕ) (response : Response) (asked : Update) → is_control request.path ≡ true → IsControl ring request (controls.Update asked)
        → ring_now ≡ ring → stores_now ≡ stores → IsReady out ring w stores.now → IsUpdated tells files faults keeps ring asked w response after
        → NodesAnswer tells files faults keeps store_faults store_calls out ring ring_now w after stores stores_now request moment response
    was_updated moment response asked is asks ring_is stores_are ready done =
        answered moment response (may_update ring w after request moment response asked is asks ready.secrets done)
        (update-calm ring asked.device _ done.outcome _ done.updated.updates) ring_is stores_are ready

    pub update_ready : (response : Response) (asked : Update) → ring_now ≡ ring → stores_now ≡ stores → IsReady out ring w stores.now
        → IsUpdated tells files faults keeps ring asked w response after → IsReady out ring_now after stores_now.now
    update_ready response asked ring_is stores_are ready done =
        ready-again ring_is stores_are ready
        (update-over-nodes ring asked.device asked.acts (see tells files faults keeps w) done.outcome (see tells files faults keeps after) ready.secrets
        done.updated)

    pub pending_told : (moment : ℕ) (response : Response) (device : ℕ) → is_control request.path ≡ true → IsControl ring request (controls.Pending device)
        → ring_now ≡ ring → stores_now ≡ stores → IsReady out ring w stores.now → ArePendingTold tells files faults keeps ring device w response after
        → NodesAnswer tells files faults keeps store_faults store_calls out ring ring_now w after stores stores_now request moment response
    pending_told moment response device is asks ring_is stores_are ready done =
        answered moment response (may_tell_pending ring w after request moment response device is asks done)
        (pending-calm ring device (see tells files faults keeps w) done.got (see tells files faults keeps after) done.read) ring_is stores_are ready

    pub pending_ready : (response : Response) (device : ℕ) → ring_now ≡ ring → stores_now ≡ stores → IsReady out ring w stores.now
        → ArePendingTold tells files faults keeps ring device w response after → IsReady out ring_now after stores_now.now
    pending_ready response device ring_is stores_are ready done =
        ready-again ring_is stores_are ready
        (pending-goes ring device (see tells files faults keeps w) done.got (see tells files faults keeps after) done.read).nodes
