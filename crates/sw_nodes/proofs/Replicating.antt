-- The nodes of a ring answer a request for replicas, and can go on.
use Rattle.std.proofs.Common.{◌≡◌, ℕ, ◌^◌, Bool, true, false, MatchBool, refl, inl, inr, MutBor}
use Rattle.sw_control.specs.Asking.{is_control}
use Rattle.sw_core.specs.Worlds.{KeeperSeen, AllNodes, sight_of}
use Rattle.sw_message.specs.declared.request.Request.{Request}
use Rattle.sw_message.specs.declared.response.Response.{Response}
use Rattle.sw_object_server.specs.Replies.{bare}
use Rattle.sw_peer.specs.Sights.{Sight}
use Rattle.sw_replica_server.specs.Serving.{IsAnswered, IsGivenUp}
use Rattle.sw_replica_server.specs.Targets.{is_replication_of}
use Rattle.sw_ring.specs.declared.ring.Ring.{Ring}
use Rattle.sw_volume.specs.Tree.{Folders}
use Rattle.sw_container_server.specs.Targets.{is_for_containers}
use Rattle.sw_machine.proofs.Honesty.{honest-leaving}
use Rattle.sw_pass.specs.Rings.{replicas_in}
use Rattle.sw_nodes.proofs.Comparing.{answered-keeps, given_up-keeps}
use Rattle.sw_nodes.proofs.Controlling.{on_true}
use Rattle.sw_nodes.proofs.Keeping.{Keeps, runs-itself}
use Rattle.sw_nodes.proofs.Restarting.{no-line, none-called, same-restarts}
use Rattle.sw_nodes.proofs.Serving.{goes_on, on_false}
use Rattle.sw_nodes.specs.Nodes.{IsReady, NodesAnswer}
use Rattle.sw_nodes.specs.Server.{IsCompared, IsContained, IsControlled, IsServedAt}

module _ {V K S : Type 0} (tells : V → Bool) (files : V → Folders) (faults : V → ℕ) (keeps : KeeperSeen K) (store_faults store_calls : S → ℕ)
    (out : S → ℕ → ℕ → Bool)
    (ring : Ring) (w after : AllNodes V K) (stores : MutBor S) (request : Request) (moment : ℕ) (response : Response)
    (nodes : is_control request.path ≡ false) (replicas : is_replication_of request ≡ true) (ready : IsReady out ring w stores.now) where
  abbrev see : AllNodes V K → Sight
  see w = sight_of tells files faults keeps w

  abbrev Answers : Type 0
  Answers = NodesAnswer tells files faults keeps store_faults store_calls out ring ring w after stores stores request moment response

  goes : Keeps (see w) (see after) → IsCompared tells files faults keeps ring w request response after → Answers
  goes still compared = record {
    ring_is = refl;
    may = record {
      answers = on_false _ _ (is_control request.path) nodes (on_true _ _ (is_replication_of request) replicas compared);
      nodes = still.nodes;
      runs = honest-leaving ring.secrets (replicas_in ring) (see w) (see after) (still.runs refl);
    };
    faults_are = refl;
    gained = 0;
    gains = same-restarts w.lines after.lines still.calm;
    calls_are = none-called (2 ^ ring.lock_bits) (store_calls stores.now) (store_calls stores.now) refl;
    same_stores = refl;
    ready = goes_on tells files faults keeps out ring w after stores.now ready still.nodes;
  }

  pub compared : IsAnswered see w after ring request response → Answers
  compared answered = goes (answered-keeps see ring request w after response answered) (inl answered)

  pub compared_not : response ≡ bare 500 → IsGivenUp see w after ring request → Answers
  compared_not reply left = goes (given_up-keeps see ring request w after left) (inr (reply, left))

  pub compared_ready : Answers → IsReady out ring after stores.now
  compared_ready answers = answers.ready

-- ---- any request

-- it was answered by want of memory before anything was done with it
module _ {V K S : Type 0} (tells : V → Bool) (files : V → Folders) (faults : V → ℕ) (keeps : KeeperSeen K) (store_faults store_calls : S → ℕ)
    (out : S → ℕ → ℕ → Bool)
    (ring : Ring) (w : AllNodes V K) (stores : MutBor S) (request : Request) (moment : ℕ) (response : Response) (ready : IsReady out ring w stores.now)
    (reply : response ≡ bare 500) where
  abbrev MayBe : Bool → Bool → Bool → Type 0
  MayBe control replicas containers =
      MatchBool control (IsControlled tells files faults keeps ring w request response w)
      (MatchBool replicas (IsCompared tells files faults keeps ring w request response w)
      (MatchBool containers (IsContained tells files faults keeps ring w request response w)
      (IsServedAt tells files faults keeps ring w request moment response w)))

  whatever : (control replicas containers : Bool) → MayBe control replicas containers
  whatever true replicas containers = inr (refl, reply)
  whatever false true containers = inr (reply, inl refl)
  whatever false false true = inr (reply, inl refl)
  whatever false false false = inr (reply, inl refl)

  pub unanswered : NodesAnswer tells files faults keeps store_faults store_calls out ring ring w w stores stores request moment response
  unanswered = record {
    ring_is = refl;
    may = record {
      answers = whatever (is_control request.path) (is_replication_of request) (is_for_containers request);
      nodes = refl;
      runs = honest-leaving ring.secrets (replicas_in ring) (sight_of tells files faults keeps w) (sight_of tells files faults keeps w)
          (runs-itself (sight_of tells files faults keeps w));
    };
    faults_are = refl;
    gained = 0;
    gains = no-line w.lines w.lines refl;
    calls_are = none-called (2 ^ ring.lock_bits) (store_calls stores.now) (store_calls stores.now) refl;
    same_stores = refl;
    ready = ready;
  }
