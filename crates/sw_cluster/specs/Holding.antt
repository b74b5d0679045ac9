-- What no run loses: points tell truly, and what a replica of a container holds it holds from then on, while containers are split too. (This project's own.)
use Rattle.std.specs.Prelude.{◌≡◌, ℕ, List, [], ◌++◌, length}
use Rattle.sw_core.specs.Worlds.{nodes_of}
use Rattle.sw_hashpath.specs.declared.place.Place.{Place}
use Rattle.sw_machine.specs.Honest.{IsAcknowledged}
use Rattle.sw_machine.specs.Machine.{Machine, RunLine, Runs, machine_of}
use Rattle.sw_pass.specs.Rings.{replicas_in}
use Rattle.sw_peer.specs.Sights.{Nodes, Sight}
use Rattle.sw_point_laws.specs.Laws.{IsBegun, ground_of, ledger_of}
use Rattle.sw_ring.specs.declared.ring.Ring.{Ring}
use Rattle.sw_rows.specs.declared.row.Row.{Row}
use Rattle.sw_shard_laws.specs.Ledger.{Holds}

abbrev pub ring_nodes : Ring → Nodes
ring_nodes ring = nodes_of (length ring.devices) ring.lock_bits ring.power ring.secrets

-- a replica holds the row, by the devices that the ring has for each container
abbrev pub IsHeldAt : Ring → Machine → ℕ → Place → Row → Type 0
IsHeldAt ring m device place row = Holds (ground_of (replicas_in ring)) (ledger_of m) device place row

-- points hold at the end, and tables are in order, so that what was given back may be begun with again; what was held after any first part of the run is held
-- at its end, and so is each row that counts as acknowledged
pub record Holding (ring : Ring) (began : Sight) (lines : List RunLine) (machine : Machine) : Type 0 where
  pub again : IsBegun (ring_nodes ring) (replicas_in ring) (record machine { sent = [] })
  pub stays : (first more : List RunLine) (mid : Machine) → lines ≡ first ++ more → Runs (ring_nodes ring) (machine_of began) first mid
      → Runs (ring_nodes ring) mid more machine → (device : ℕ) (place : Place) (row : Row) → IsHeldAt ring mid device place row
      → IsHeldAt ring machine device place row
  pub acknowledged : (device : ℕ) (place : Place) (row : Row) → IsAcknowledged ring.secrets (replicas_in ring) lines device place row
      → IsHeldAt ring machine device place row

-- where all of this was so of what the nodes held as the run began, and each container lock told its tables
abbrev pub HoldsOn : Ring → Sight → List RunLine → Machine → Type 0
HoldsOn ring began lines machine = IsBegun (ring_nodes ring) (replicas_in ring) (machine_of began) → Holding ring began lines machine
