-- What is asked for by a request is reached by a door that reaches the ring's devices and names, and what became of it became of the request.
use Rattle.std.proofs.Common.{◌≡◌, ℕ, ◌<◌, ◌≤◌, true, length, inl, inr, arith}
use Rattle.sw_hashpath.specs.declared.name.Name.{Name}
use Rattle.sw_message.specs.declared.request.Request.{Request}
use Rattle.sw_peer.specs.Sights.{Nodes, Sight}
use Rattle.sw_ring.specs.declared.ring.Ring.{Ring}
use Rattle.sw_object_server.specs.Places.{IsHashed, IsPlaced}
use Rattle.sw_object_server.specs.Asking.{IsAsked}
use Rattle.sw_object_server.specs.Serving.{IsGivenUp, IsHalted, IsReached}
use Rattle.sw_object_server.specs.declared.asked.Asked.{Asked}
use Rattle.sw_object_server.specs.declared.asked.Asked.TheVariants as asks

pub reached : (ring : Ring) (nodes : Nodes) (asked : Asked) → length ring.devices ≤ nodes.devices
    → ((name : Name) → IsHashed ring name → nodes.fits name ≡ true) → IsPlaced ring asked → IsReached nodes asked
reached ring nodes (asks.Refused status) devices fits placed = tt
reached ring nodes (asks.Change device name change) devices fits placed =
    (let here : device < length ring.devices = placed.0 in omega arith, fits name placed.1)
reached ring nodes (asks.Read device name head_only) devices fits placed =
    (let here : device < length ring.devices = placed.0 in omega arith, fits name placed.1)

-- no reply was made to what a request asks for, and so none to the request
pub given_up : {D : Type 0} (sight : D → Sight) (old new : D) (ring : Ring) (r : Request) (moment : ℕ) (asked : Asked) → IsAsked ring r asked
    → IsHalted sight old new moment asked → IsGivenUp sight old new ring r moment
given_up sight old new ring r moment asked is (inl early) = inl early.0
given_up sight old new ring r moment asked is (inr left) = inr (asked, is, left)
