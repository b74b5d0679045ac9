-- What the passes that split a container make of the nodes, and a read of how it is split.
use Rattle.std.proofs.Common.{◌≡◌, ℕ, Bool, true, false, MutBor, inl, refl}
use Rattle.sw_control.specs.Asking.{IsControl, is_control}
use Rattle.sw_control.specs.declared.asking.Control.TheVariants as controls
use Rattle.sw_control.specs.declared.cleaving.Cleaving.{Cleaving}
use Rattle.sw_control.specs.declared.shard_creation.ShardCreation.{ShardCreation}
use Rattle.sw_control.specs.declared.shards_read.ShardsRead.{ShardsRead}
use Rattle.sw_core.specs.Worlds.{KeeperSeen, AllNodes}
use Rattle.sw_machine.proofs.Honesty.{honest-leaving}
use Rattle.sw_message.specs.declared.request.Request.{Request}
use Rattle.sw_message.specs.declared.response.Response.{Response}
use Rattle.sw_pass.specs.Rings.{replicas_in}
use Rattle.sw_peer.specs.Sights.{Sight}
use Rattle.sw_ring.specs.declared.ring.Ring.{Ring}
use Rattle.sw_shard_range.specs.Names.{is_hidden}
use Rattle.sw_steps.proofs.CleaveRunning.{cleave-over-nodes, cleaves_run}
use Rattle.sw_steps.proofs.CreationRunning.{creation-over-nodes, creations_run}
use Rattle.sw_volume.specs.Tree.{Folders}
use Rattle.sw_nodes.proofs.Controlling.{on_true, see}
use Rattle.sw_nodes.proofs.Keeping.{Keeps, sharding-keeps}
use Rattle.sw_nodes.proofs.SplitCalming.{cleave-calm, creation-calm}
use Rattle.sw_nodes.proofs.Updating.{answered, ready-again}
use Rattle.sw_nodes.specs.Nodes.{IsReady, NodesAnswer}
use Rattle.sw_nodes.specs.Server.{AreShardsCreated, AreShardsTold, IsCleft, MayAnswer}

-- a container that may be cleaved isn't hidden
not-hidden : (ring : Ring) (request : Request) (asked : Cleaving) → IsControl ring request (controls.Cleave asked) → is_hidden asked.place ≡ false
not-hidden ring request asked asks = asks.3.place.shown

-- nor is one whose shards may be created
not-split : (ring : Ring) (request : Request) (asked : ShardCreation) → IsControl ring request (controls.CreateShards asked) → is_hidden asked.place ≡ false
not-split ring request asked asks = asks.4.place.shown

module _ {V K : Type 0} (tells : V → Bool) (files : V → Folders) (faults : V → ℕ) (keeps : KeeperSeen K) where
  abbrev seen : AllNodes V K → Sight
  seen w = see tells files faults keeps w

  may_create : (ring : Ring) (w after : AllNodes V K) (request : Request) (moment : ℕ) (response : Response) (asked : ShardCreation)
      → is_control request.path ≡ true → IsControl ring request (controls.CreateShards asked)
      → AreShardsCreated tells files faults keeps ring asked w response after → MayAnswer tells files faults keeps ring w request moment response after
  may_create ring w after request moment response asked is asks done = record {
    answers = on_true _ _ (is_control request.path) is (inl (controls.CreateShards asked, asks, done));
    nodes = creation-over-nodes ring asked.device asked.place asked.per_shard asked.time asked.acts (seen w) done.outcome (seen after)
        (not-split ring request asked asks) done.created;
    runs = creations_run ring asked.device asked.place asked.per_shard asked.time asked.acts (seen w) done.outcome (seen after) done.created
        (not-split ring request asked asks) refl;
  }

  may_cleave : (ring : Ring) (w after : AllNodes V K) (request : Request) (moment : ℕ) (response : Response) (asked : Cleaving)
      → is_control request.path ≡ true → IsControl ring request (controls.Cleave asked) → IsCleft tells files faults keeps ring asked w response after
      → MayAnswer tells files faults keeps ring w request moment response after
  may_cleave ring w after request moment response asked is asks done =
      let shown : is_hidden asked.place ≡ false = not-hidden ring request asked asks in
      record {
        answers = on_true _ _ (is_control request.path) is (inl (controls.Cleave asked, asks, done));
        nodes = cleave-over-nodes ring asked.device asked.place asked.acts (seen w) done.outcome (seen after) shown done.cleft;
        runs = cleaves_run ring asked.device asked.place asked.acts (seen w) done.outcome (seen after) done.cleft shown refl;
      }

  told-keeps : (w after : AllNodes V K) (response : Response) (asked : ShardsRead) → AreShardsTold tells files faults keeps asked w response after
      → Keeps (seen w) (seen after)
  told-keeps w after response asked done = sharding-keeps asked.device asked.place (seen w) done.got (seen after) done.read

  may_tell_shards : (ring : Ring) (w after : AllNodes V K) (request : Request) (moment : ℕ) (response : Response) (asked : ShardsRead)
      → is_control request.path ≡ true → IsControl ring request (controls.Shards asked) → AreShardsTold tells files faults keeps asked w response after
      → MayAnswer tells files faults keeps ring w request moment response after
  may_tell_shards ring w after request moment response asked is asks done =
      let still : Keeps (seen w) (seen after) = told-keeps w after response asked done in
      record {
        answers = on_true _ _ (is_control request.path) is (inl (controls.Shards asked, asks, done));
        nodes = still.nodes;
        runs = honest-leaving ring.secrets (replicas_in ring) (seen w) (seen after) (still.runs refl);
      }

  module _ {S : Type 0} (store_faults store_calls : S → ℕ) (out : S → ℕ → ℕ → Bool) (ring ring_now : Ring) (w after : AllNodes V K)
      (stores stores_now : MutBor S) (request : Request) where
    abbrev Answers : ℕ → Response → Type 0
    Answers moment response =
        NodesAnswer tells files faults keeps store_faults store_calls out ring ring_now w after stores stores_now request moment response

    pub were_created : (moment : ℕ) (response : Response) (asked : ShardCreation) → is_control request.path ≡ true
        → IsControl ring request (controls.CreateShards asked) → ring_now ≡ ring → stores_now ≡ stores → IsReady out ring w stores.now
        → AreShardsCreated tells files faults keeps ring asked w response after → Answers moment response
    were_created moment response asked is asks ring_is stores_are ready done =
        answered tells files faults keeps store_faults store_calls out ring ring_now w after stores stores_now request moment response
        (may_create ring w after request moment response asked is asks done)
        (creation-calm asked.device asked.place ring asked.per_shard asked.time _ done.outcome _ done.created.creates) ring_is stores_are ready

    pub creation_ready : (response : Response) (asked : ShardCreation) → IsControl ring request (controls.CreateShards asked) → ring_now ≡ ring
        → stores_now ≡ stores → IsReady out ring w stores.now → AreShardsCreated tells files faults keeps ring asked w response after
        → IsReady out ring_now after stores_now.now
    creation_ready response asked asks ring_is stores_are ready done =
        ready-again tells files faults keeps store_faults store_calls out ring ring_now w after stores stores_now request ring_is stores_are ready
        (creation-over-nodes ring asked.device asked.place asked.per_shard asked.time asked.acts (seen w) done.outcome (seen after)
        (not-split ring request asked asks) done.created)

    pub was_cleft : (moment : ℕ) (response : Response) (asked : Cleaving) → is_control request.path ≡ true → IsControl ring request (controls.Cleave asked)
        → ring_now ≡ ring → stores_now ≡ stores → IsReady out ring w stores.now → IsCleft tells files faults keeps ring asked w response after
        → Answers moment response
    was_cleft moment response asked is asks ring_is stores_are ready done =
        answered tells files faults keeps store_faults store_calls out ring ring_now w after stores stores_now request moment response
        (may_cleave ring w after request moment response asked is asks done)
        (cleave-calm asked.device asked.place ring _ done.outcome _ done.cleft.cleaves) ring_is stores_are ready

    pub cleave_ready : (response : Response) (asked : Cleaving) → IsControl ring request (controls.Cleave asked) → ring_now ≡ ring → stores_now ≡ stores
        → IsReady out ring w stores.now → IsCleft tells files faults keeps ring asked w response after → IsReady out ring_now after stores_now.now
    cleave_ready response asked asks ring_is stores_are ready done =
        ready-again tells files faults keeps store_faults store_calls out ring ring_now w after stores stores_now request ring_is stores_are ready
        (cleave-over-nodes ring asked.device asked.place asked.acts (seen w) done.outcome (seen after) (not-hidden ring request asked asks) done.cleft)

    pub shards_told : (moment : ℕ) (response : Response) (asked : ShardsRead) → is_control request.path ≡ true
        → IsControl ring request (controls.Shards asked) → ring_now ≡ ring → stores_now ≡ stores → IsReady out ring w stores.now
        → AreShardsTold tells files faults keeps asked w response after → Answers moment response
    shards_told moment response asked is asks ring_is stores_are ready done =
        answered tells files faults keeps store_faults store_calls out ring ring_now w after stores stores_now request moment response
        (may_tell_shards ring w after request moment response asked is asks done) (told-keeps w after response asked done).calm ring_is stores_are ready

    pub shards_ready : (response : Response) (asked : ShardsRead) → ring_now ≡ ring → stores_now ≡ stores → IsReady out ring w stores.now
        → AreShardsTold tells files faults keeps asked w response after → IsReady out ring_now after stores_now.now
    shards_ready response asked ring_is stores_are ready done =
        ready-again tells files faults keeps store_faults store_calls out ring ring_now w after stores stores_now request ring_is stores_are ready
        (told-keeps w after response asked done).nodes
