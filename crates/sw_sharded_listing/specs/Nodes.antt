-- The nodes over which a container can be listed by a ring. (This project's own.)
use Rattle.std.specs.Prelude.{◌≡◌, ◌≤◌, true, length}
use Rattle.sw_hashpath.specs.declared.place.Place.{Place}
use Rattle.sw_pass.specs.Rings.{is_place}
use Rattle.sw_peer.specs.Sights.{Nodes}
use Rattle.sw_ring.specs.declared.ring.Ring.{Ring}

-- there is a node for each device of the ring, or more, and each place that the ring knows fits them
pub record AreNodesFor (ring : Ring) (nodes : Nodes) : Type 0 where
  pub devices : length ring.devices ≤ nodes.devices
  pub placed : (place : Place) → is_place ring.secrets place ≡ true → nodes.fits_place place ≡ true
