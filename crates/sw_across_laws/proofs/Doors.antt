-- Doors to a machine: one that stands for it is such, and stays one over reads.
use Rattle.std.proofs.Common.{◌≡◌, ℕ, ◌∙◌, ap}
use Rattle.sw_container_steps.specs.Halves.{ContHalf}
use Rattle.sw_hashpath.specs.declared.place.Place.{Place}
use Rattle.sw_listing_laws.specs.Plain.{Cluster}
use Rattle.sw_machine.specs.Doors.{StandsFor}
use Rattle.sw_machine.specs.Machine.{Machine}
use Rattle.sw_machine.specs.Sides.{TellsAt}
use Rattle.sw_pass.specs.Rings.{replicas_in}
use Rattle.sw_peer.specs.Sights.{Sight, cont_lock}
use Rattle.sw_ring.specs.declared.ring.Ring.{Ring}
use Rattle.sw_across_laws.proofs.Keeping.{KeepsAll}
use Rattle.sw_across_laws.specs.Laws.{IsDoorTo}

module _ (c : Cluster) (m : Machine) (ring : Ring) where
  -- a door to the nodes that stands for a machine each of whose container locks tells its contents
  pub door-stands : (s : Sight) → s.nodes ≡ c.nodes → ((place : Place) → c.replicas place ≡ replicas_in ring place) → StandsFor s m
      → ((device : ℕ) (place : Place) → TellsAt (cont_lock c.nodes) m.containers device place) → IsDoorTo c m ring s
  door-stands s nodes keepers stands tell = record {
    nodes = nodes;
    keepers = keepers;
    tell = λ d p. ap (λ (h : ContHalf). (h.seen (cont_lock c.nodes d p)).told) stands.containers ∙ tell d p;
    holds = λ alone d p. ap (λ (h : ContHalf). h.holds d p) stands.containers;
  }

  -- behind what keeps all it is still one
  pub door-kept : (old new : Sight) → IsDoorTo c m ring old → KeepsAll old new → IsDoorTo c m ring new
  door-kept old new door kept = record {
    nodes = kept.nodes ∙ door.nodes;
    keepers = door.keepers;
    tell = λ d p. kept.told (cont_lock c.nodes d p) ∙ door.tell d p;
    holds = λ alone d p. kept.holds_all alone d p ∙ door.holds (kept.alone alone) d p;
  }
