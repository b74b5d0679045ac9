-- What a ring that was read says, and which of its tables is meant. (This project's own.)
use Rattle.std.specs.Prelude.{ℕ, List}
use Rattle.sw_ring.specs.RingData.{RingData}
use Rattle.sw_ring.specs.declared.ring.Ring.{Ring}
use Rattle.sw_ring.specs.declared.ring.Which.{Which}
use Rattle.sw_ring.specs.declared.ring.Which.TheVariants.{Object, Container}

abbrev pub table_of : Which → Ring → List (List ℕ)
table_of Object ring = ring.object
table_of Container ring = ring.container

abbrev pub data_of : Ring → RingData
data_of ring = record {
  devices = ring.devices;
  power = ring.power;
  lock_bits = ring.lock_bits;
  replicas = ring.replicas;
  secrets = ring.secrets;
  object = ring.object;
  container = ring.container;
}
