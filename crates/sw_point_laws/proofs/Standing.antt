-- A machine whose ledger stands behind what is known of it.
use Rattle.std.proofs.Common.{ℕ, List}
use Rattle.sw_container_steps.specs.Entries.{rows_of}
use Rattle.sw_hashpath.specs.declared.place.Place.{Place}
use Rattle.sw_machine.specs.Machine.{Machine, RunLine}
use Rattle.sw_machine.specs.Sides.{TellsAt}
use Rattle.sw_peer.specs.Sights.{Nodes, cont_lock}
use Rattle.sw_rows.specs.Rows.{IsListed}
use Rattle.sw_shard_laws.specs.Sound.{PointsHold}
use Rattle.sw_split_steps.specs.Tables.{IsInOrder}
use Rattle.sw_point_laws.proofs.Saying.{AllSay, CanAllCome}
use Rattle.sw_point_laws.specs.Laws.{ground_of, ledger_of}

-- Behind these lines: each lock tells its contents, tables are in order, and their rows in that of their numbers; points hold; what the lines told is so still;
-- and ranges that are on their way can be set
pub record IsSound (nodes : Nodes) (replicas : Place → List ℕ) (done : List RunLine) (m : Machine) : Type 0 where
  pub tell : (device : ℕ) (place : Place) → TellsAt (cont_lock nodes) m.containers device place
  pub ordered : (device : ℕ) (place : Place) → IsInOrder (m.containers.half.holds device place)
  pub listed : (device : ℕ) (place : Place) → IsListed (rows_of (m.containers.half.holds device place))
  pub points : PointsHold (ground_of replicas) (ledger_of m)
  pub say : AllSay (ground_of replicas) (ledger_of m) done
  pub comes : CanAllCome (ground_of replicas) (ledger_of m) m.sent
