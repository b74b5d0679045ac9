-- A world over the nodes of a ring is ready where its volumes are out.
use Rattle.std.proofs.Common.{◌≡◌, ℕ, Bool, true, length, Option, None, sym, ◌∙◌, ap, subst, arith}
use Rattle.sw_core.proofs.Containing.{place-fits}
use Rattle.sw_core.specs.Worlds.{is_hashed_place, AllNodes, nodes_of, shown}
use Rattle.sw_peer.specs.Sights.{Nodes}
use Rattle.sw_ring.specs.declared.ring.Ring.{Ring}
use Rattle.sw_hashdir.proofs.Stored.{hashed-is}
use Rattle.sw_hashdir.specs.Steps.{IsHashed}
use Rattle.sw_hashpath.specs.declared.secrets.Secrets.{Secrets}
use Rattle.sw_nodes.specs.Nodes.{AreNodesOf}
use Rattle.sw_nodes.specs.Nodes.{IsReady, places_of}

pub ready-of : {V K S : Type 0} (out : S → ℕ → ℕ → Bool) (ring : Ring) (w : AllNodes V K) (stores : S) → w.lifted ≡ None
    → nodes_of (shown w.lifted w.devices) w.lock_bits w.power w.secrets ≡ nodes_of (length ring.devices) ring.lock_bits ring.power ring.secrets
    → ((d s : ℕ) → out stores d s ≡ places_of ring d s) → IsReady out ring w stores
ready-of out ring w stores whole nodes are_out = record {
  whole = whole;
  nodes = nodes;
  devices = sym (ap (λ (o : Option ℕ). shown o w.devices) whole) ∙ ap (λ (n : Nodes). n.devices) nodes;
  lock_bits = ap (λ (n : Nodes). n.lock_bits) nodes;
  power = ap (λ (n : Nodes). n.power) nodes;
  secrets = ap (λ (n : Nodes). n.secrets) nodes;
  are_out = are_out;
}

-- then they are the ring's, for whoever asks them
pub ready-nodes : {V K S : Type 0} (out : S → ℕ → ℕ → Bool) (ring : Ring) (w : AllNodes V K) (stores : S) → IsReady out ring w stores
    → AreNodesOf ring (nodes_of (shown w.lifted w.devices) w.lock_bits w.power w.secrets)
ready-nodes out ring w stores ready =
    let devices : shown w.lifted w.devices ≡ length ring.devices = ap (λ (n : Nodes). n.devices) ready.nodes in
    record {
      devices = omega (arith, devices);
      power = sym ready.power;
      fits = λ name hashed.
          let plain : IsHashed ring.secrets name = record { hashed = sym hashed.0; good = hashed.1 } in
          hashed-is w.secrets name (subst (λ (secrets : Secrets). IsHashed secrets name) (sym ready.secrets) plain);
      fits_place = λ place hashed.
          subst (λ (secrets : Secrets). is_hashed_place secrets place ≡ true) (sym ready.secrets) (place-fits ring.secrets place hashed.0 hashed.1);
    }
