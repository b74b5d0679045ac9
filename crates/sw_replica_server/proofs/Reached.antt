-- What is asked for by a request is reached by a door that reaches the ring's devices and partitions.
use Rattle.std.proofs.Common.{◌≡◌, ℕ, ◌^◌, ◌<◌, ◌≤◌, length, subst, arith}
use Rattle.sw_peer.specs.Sights.{Nodes}
use Rattle.sw_ring.specs.declared.ring.Ring.{Ring}
use Rattle.sw_replica_server.specs.Asking.{IsPlaced}
use Rattle.sw_replica_server.specs.Serving.{IsReached}
use Rattle.sw_replica_server.specs.declared.asked.ReplicaAsked.{ReplicaAsked}
use Rattle.sw_replica_server.specs.declared.asked.ReplicaAsked.TheVariants as asks

pub reached : (ring : Ring) (nodes : Nodes) (asked : ReplicaAsked) → length ring.devices ≤ nodes.devices → ring.power ≡ nodes.power
    → IsPlaced ring asked → IsReached nodes asked
reached ring nodes (asks.Refused status) devices power placed = tt
reached ring nodes (asks.Hashes device part) devices power placed =
    (let here : device < length ring.devices = placed.0 in omega arith, subst (λ (p : ℕ). part < 2 ^ p) power placed.1)
reached ring nodes (asks.Files device part suffixes) devices power placed =
    (let here : device < length ring.devices = placed.0 in omega arith, subst (λ (p : ℕ). part < 2 ^ p) power placed.1)
