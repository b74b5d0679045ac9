-- What the nodes of a ring answer, and that they can go on.
use Rattle.std.proofs.Common.{◌≡◌, ℕ, suc, ◌≤◌, ◌^◌, Bool, true, false, List, [], ◌∷◌, length, Option, Some, None, refl, ap, ◌∙◌, inl, inr, MatchBool, nat_eq}
use Rattle.std.proofs.Common.{nat_le, not, ◌&&◌, ◌||◌, arith, MutBor}
use Rattle.std.proofs.lemmas.Grind.{common_steps}
use Rattle.std.proofs.lemmas.Nat.{pow_pos}
use Rattle.sw_message.specs.declared.request.Request.{Request}
use Rattle.sw_message.specs.declared.response.Response.{Response}
use Rattle.sw_object_server.specs.Replies.{bare}
use Rattle.sw_object_server.specs.Serving.{IsAnswered, IsGivenUp}
use Rattle.sw_control.specs.Asking.{is_control}
use Rattle.sw_container_server.specs.Targets.{is_for_containers}
use Rattle.sw_replica_server.specs.Targets.{is_replication_of}
use Rattle.sw_core.specs.Worlds.{KeeperSeen, AllNodes, shown, sight_of}
use Rattle.sw_peer.specs.Sights.{Nodes, Sight}
use Rattle.sw_ring.specs.Faults.{has_repeat}
use Rattle.sw_ring.specs.Rows.{AreGood, is_good}
use Rattle.sw_ring.specs.declared.ring.Ring.{Ring}
use Rattle.sw_volume.specs.Tree.{Folders}
use Rattle.sw_machine.proofs.Honesty.{honest-leaving}
use Rattle.sw_pass.specs.Rings.{replicas_in}
use Rattle.sw_nodes.proofs.Readying.{ready-of}
use Rattle.sw_nodes.proofs.Restarting.{none-called, same-restarts}
use Rattle.sw_nodes.proofs.RunningLemmas.{answered_keeps, left_keeps}
use Rattle.sw_nodes.specs.Nodes.{IsReady, NodesAnswer}

-- ---- a ring has a device

in_row : (devices replicas : ℕ) (row : List ℕ) → 1 ≤ replicas → is_good devices replicas row ≡ true → 1 ≤ devices
in_row devices replicas [] some good = absurd (grind (arith, common_steps))
in_row devices replicas (d ∷ ds) some good = past d (known (nat_eq (suc (length ds)) replicas) (nat_le devices d) _ (not (has_repeat nat_eq (d ∷ ds))) good)
  where
    known : (a e b c : Bool) → (a && not (e || b) && c) ≡ true → e ≡ false
    known false e b c is = cc
    known true true b c is = cc
    known true false b c is = refl

    past : (d : ℕ) → nat_le devices d ≡ false → 1 ≤ devices
    past d is = grind (arith, common_steps)

in_table : (devices replicas : ℕ) (table : List (List ℕ)) → 1 ≤ replicas → 1 ≤ length table → AreGood devices replicas table → 1 ≤ devices
in_table devices replicas [] some rows good = absurd (omega (arith, rows))
in_table devices replicas (row ∷ table) some rows good = in_row devices replicas row some (first (is_good devices replicas row) _ good)
  where
    first : (a b : Bool) → (a && b) ≡ true → a ≡ true
    first true b is = refl
    first false b is = cc

pub has_device : (ring : Ring) → 1 ≤ length ring.devices
has_device ring =
    let count = ring.object_count in
    let some = pow_pos ring.power in
    in_table (length ring.devices) ring.replicas ring.object ring.least_replicas (omega (arith, count, some)) ring.object_rows

pub on_false : (X Y : Type 0) (b : Bool) → b ≡ false → Y → MatchBool b X Y
on_false X Y true is y = cc
on_false X Y false is y = y

-- ---- they can go on

whole_of : (lifted : Option ℕ) (devices count : ℕ) → 1 ≤ count → shown lifted devices ≡ count → lifted ≡ None
whole_of None devices count some is = refl
whole_of (Some device) devices count some is = absurd (omega (arith, some, is))

module _ {V K : Type 0} (tells : V → Bool) (files : V → Folders) (faults : V → ℕ) (keeps : KeeperSeen K) where
  abbrev see : AllNodes V K → Sight
  see w = sight_of tells files faults keeps w

  module _ {S : Type 0} (out : S → ℕ → ℕ → Bool) where
    -- the nodes are those of a ring, which has a device: so none of theirs is lifted
    pub goes_on : (ring : Ring) (w after : AllNodes V K) (stores : S) → IsReady out ring w stores → (see after).nodes ≡ (see w).nodes →
        IsReady out ring after stores
    goes_on ring w after stores ready same =
        let nodes = same ∙ ready.nodes in
        ready-of out ring after stores (whole_of after.lifted after.devices (length ring.devices) (has_device ring) (ap (λ (n : Nodes). n.devices) nodes)) nodes
        ready.are_out

    pub answered_on : (ring : Ring) (w after : AllNodes V K) (stores : S) (request : Request) (moment : ℕ) (response : Response) → IsReady out ring w stores
        → IsAnswered see w after ring request moment response → IsReady out ring after stores
    answered_on ring w after stores request moment response ready answered =
        goes_on ring w after stores ready ((answered_keeps see ring w after request moment response answered).nodes)

    pub left_on : (ring : Ring) (w after : AllNodes V K) (stores : S) (request : Request) (moment : ℕ) → IsReady out ring w stores
        → IsGivenUp see w after ring request moment → IsReady out ring after stores
    left_on ring w after stores request moment ready left =
        goes_on ring w after stores ready ((left_keeps see ring w after request moment left).nodes)

  -- ---- a request of the nodes

  module _ {S : Type 0} (store_faults store_calls : S → ℕ) (out : S → ℕ → ℕ → Bool) where
    -- it was answered
    pub served : (ring : Ring) (w after : AllNodes V K) (stores : MutBor S) (request : Request) (moment : ℕ) (response : Response)
        → is_control request.path ≡ false → is_replication_of request ≡ false → is_for_containers request ≡ false → IsReady out ring w stores.now
        → IsAnswered see w after ring request moment response → NodesAnswer tells files faults keeps store_faults store_calls out ring ring w after stores
        stores
        request moment response
    served ring w after stores request moment response is other object ready answered = record {
      ring_is = refl;
      may = record {
        answers = on_false _ _ (is_control request.path) is (on_false _ _ (is_replication_of request) other (on_false _ _ (is_for_containers request) object
            (inl answered)));
        nodes = (answered_keeps see ring w after request moment response answered).nodes;
        runs = honest-leaving ring.secrets (replicas_in ring) (see w) (see after)
            ((answered_keeps see ring w after request moment response answered).runs refl);
      };
      faults_are = refl;
      gained = 0;
      gains = same-restarts w.lines after.lines (answered_keeps see ring w after request moment response answered).calm;
      calls_are = none-called (2 ^ ring.lock_bits) (store_calls stores.now) (store_calls stores.now) refl;
      same_stores = refl;
      ready = answered_on out ring w after stores.now request moment response ready answered;
    }

    -- its reply found no memory
    pub gave_up : (ring : Ring) (w after : AllNodes V K) (stores : MutBor S) (request : Request) (moment : ℕ) (response : Response)
        → is_control request.path ≡ false → is_replication_of request ≡ false → is_for_containers request ≡ false → IsReady out ring w stores.now
        → response ≡ bare 500
        → IsGivenUp see w after ring request moment
        → NodesAnswer tells files faults keeps store_faults store_calls out ring ring w after stores stores request moment response
    gave_up ring w after stores request moment response is other object ready reply left = record {
      ring_is = refl;
      may = record {
        answers = on_false _ _ (is_control request.path) is (on_false _ _ (is_replication_of request) other (on_false _ _ (is_for_containers request) object
            (inr (reply, left))));
        nodes = (left_keeps see ring w after request moment left).nodes;
        runs = honest-leaving ring.secrets (replicas_in ring) (see w) (see after) ((left_keeps see ring w after request moment left).runs refl);
      };
      faults_are = refl;
      gained = 0;
      gains = same-restarts w.lines after.lines (left_keeps see ring w after request moment left).calm;
      calls_are = none-called (2 ^ ring.lock_bits) (store_calls stores.now) (store_calls stores.now) refl;
      same_stores = refl;
      ready = left_on out ring w after stores.now request moment ready left;
    }
