-- What is promised of points, and of what replicas hold, over honest runs of the machine. (This project's own.)
use Rattle.std.specs.Prelude.{◌≡◌, ℕ, List, [], None}
use Rattle.std.specs.List.{All}
use Rattle.sw_container_steps.specs.Entries.{rows_of}
use Rattle.sw_container_steps.specs.declared.cont_change.ContChange.TheVariants.{MergeRows}
use Rattle.sw_hashpath.specs.declared.place.Place.{Place}
use Rattle.sw_hashpath.specs.declared.secrets.Secrets.{Secrets}
use Rattle.sw_machine.specs.Honest.{AreHonest, IsAcknowledged, WasTaken}
use Rattle.sw_machine.specs.Machine.{Machine, RunLine, Runs}
use Rattle.sw_machine.specs.Sides.{TellsAt}
use Rattle.sw_peer.specs.Sights.{Nodes, cont_lock}
use Rattle.sw_rows.specs.Rows.{IsListed}
use Rattle.sw_rows.specs.declared.row.Row.{Row}
use Rattle.sw_shard_laws.specs.Ledger.{Ground, Holds, Ledger}
use Rattle.sw_shard_laws.specs.Sound.{PointsHold}
use Rattle.sw_split_steps.specs.Tables.{IsInOrder, tables_of}

-- ---- the ledger of a machine

-- what each device has of each container
abbrev pub ledger_of : Machine → Ledger
ledger_of m = λ device place. tables_of (m.containers.half.holds device place)

abbrev pub ground_of : (Place → List ℕ) → Ground
ground_of replicas = record { ring = replicas }

-- each container lock tells its contents, the tables of each container are in order and its rows in that of their numbers, points hold, and no message was
-- sent
pub record IsBegun (nodes : Nodes) (replicas : Place → List ℕ) (m : Machine) : Type 0 where
  pub tell : (device : ℕ) (place : Place) → TellsAt (cont_lock nodes) m.containers device place
  pub ordered : (device : ℕ) (place : Place) → IsInOrder (m.containers.half.holds device place)
  pub listed : (device : ℕ) (place : Place) → IsListed (rows_of (m.containers.half.holds device place))
  pub points : PointsHold (ground_of replicas) (ledger_of m)
  pub no_messages : m.sent ≡ []

-- nothing was created at any device, and no message was sent; each container lock tells its contents
pub record IsEmpty (nodes : Nodes) (m : Machine) : Type 0 where
  pub tell : (device : ℕ) (place : Place) → TellsAt (cont_lock nodes) m.containers device place
  pub nothing : (device : ℕ) (place : Place) → m.containers.half.holds device place ≡ None
  pub no_messages : m.sent ≡ []

abbrev pub RunsBegin : Type 0
RunsBegin = (nodes : Nodes) (replicas : Place → List ℕ) (m : Machine) → IsEmpty nodes m → IsBegun nodes replicas m

-- ---- runs in which all nodes keep to their parts, whatever failed, was lost, came again or was restarted

abbrev pub PointsHoldOverRuns : Type 0
PointsHoldOverRuns = (nodes : Nodes) (secrets : Secrets) (replicas : Place → List ℕ) (m : Machine) (lines : List RunLine) (after : Machine)
    → IsBegun nodes replicas m → Runs nodes m lines after → AreHonest secrets replicas [] lines → PointsHold (ground_of replicas) (ledger_of after)

-- what it leaves is what a run may begin with, once no message is on its way
abbrev pub RunsBeginAnew : Type 0
RunsBeginAnew = (nodes : Nodes) (secrets : Secrets) (replicas : Place → List ℕ) (m : Machine) (lines : List RunLine) (after : Machine)
    → IsBegun nodes replicas m → Runs nodes m lines after → AreHonest secrets replicas [] lines → IsBegun nodes replicas (record after { sent = [] })

-- what a replica holds at some moment it holds from then on
abbrev pub HeldStaysHeld : Type 0
HeldStaysHeld = (nodes : Nodes) (secrets : Secrets) (replicas : Place → List ℕ) (m : Machine) (lines : List RunLine) (mid : Machine) (more : List RunLine)
    (after : Machine) → IsBegun nodes replicas m → Runs nodes m lines mid → AreHonest secrets replicas [] lines → Runs nodes mid more after
    → AreHonest secrets replicas lines more → (device : ℕ) (place : Place) (row : Row) → Holds (ground_of replicas) (ledger_of mid) device place row
    → Holds (ground_of replicas) (ledger_of after) device place row

-- what a replica took it holds: each row of a step of several
abbrev pub TakenIsHeld : Type 0
TakenIsHeld = (nodes : Nodes) (secrets : Secrets) (replicas : Place → List ℕ) (m : Machine) (lines : List RunLine) (after : Machine)
    → IsBegun nodes replicas m → Runs nodes m lines after → AreHonest secrets replicas [] lines → (device : ℕ) (place : Place) (rows : List Row)
    → WasTaken lines device place (MergeRows rows) → All (Holds (ground_of replicas) (ledger_of after) device place) rows

-- and a row that counts as acknowledged by it: it took it, or left it to a shard each replica of which took it
abbrev pub AcknowledgedIsHeld : Type 0
AcknowledgedIsHeld = (nodes : Nodes) (secrets : Secrets) (replicas : Place → List ℕ) (m : Machine) (lines : List RunLine) (after : Machine)
    → IsBegun nodes replicas m → Runs nodes m lines after → AreHonest secrets replicas [] lines → (device : ℕ) (place : Place) (row : Row)
    → IsAcknowledged secrets replicas lines device place row → Holds (ground_of replicas) (ledger_of after) device place row
