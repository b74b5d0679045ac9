-- Which devices keep a container, by the ring of the nodes. (OpenStack Swift's rings.)
use Rattle.std.specs.Prelude.{◌≡◌, ◌<◌, ℕ, Bool, true, ◌&&◌, is_none, List, [], length, slice_index_or, None, Some}
use Rattle.std.specs.List.{All, slice_get}
use Rattle.std.specs.Str.{bytes_eq}
use Rattle.sw_hashpath.specs.BadNames.{bad_name}
use Rattle.sw_hashpath.specs.HashParts.{partition_of}
use Rattle.sw_hashpath.specs.Paths.{hash_of}
use Rattle.sw_hashpath.specs.Places.{IsPlace}
use Rattle.sw_hashpath.specs.declared.name.Name.{Name}
use Rattle.sw_hashpath.specs.declared.place.Place.{Place}
use Rattle.sw_hashpath.specs.declared.secrets.Secrets.{Secrets}
use Rattle.sw_peer.specs.Sights.{Nodes}
use Rattle.sw_pending.specs.Outcomes.{IsName}
use Rattle.sw_ring.specs.declared.ring.Ring.{Ring}

-- the ring is that of these nodes
pub record IsRingOf (ring : Ring) (nodes : Nodes) : Type 0 where
  pub devices : nodes.devices ≡ length ring.devices
  pub lock_bits : nodes.lock_bits ≡ ring.lock_bits
  pub secrets : nodes.secrets ≡ ring.secrets
  pub named : (name : Name) → IsName ring.secrets name → nodes.fits name ≡ true
  pub placed : (place : Place) → IsPlace ring.secrets place → nodes.fits_place place ≡ true

-- the devices that keep it, in their order
abbrev pub AreReplicas : Ring → Place → List ℕ → Type 0
AreReplicas ring place all = slice_get ring.container (partition_of place.hash ring.power) ≡ Some all

-- these, or none where the ring has no such row
abbrev pub replicas_in : Ring → Place → List ℕ
replicas_in ring place = slice_index_or ring.container (partition_of place.hash ring.power) []

-- these devices are those of the ring
abbrev pub AreKnown : Ring → List ℕ → Type 0
AreKnown ring all = All (λ device. device < length ring.devices) all

-- whether nothing is wrong with a place's names, and its hash is that of its path
abbrev pub is_place : Secrets → Place → Bool
is_place secrets place =
    is_none (bad_name place.account (Some place.container) None)
    && bytes_eq place.hash (hash_of secrets place.account (Some place.container) None)
