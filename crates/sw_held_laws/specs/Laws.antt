-- What each replica of a container holds, where no record of an update waits: also of one that is split into shards. (This project's own.)
use Rattle.std.specs.Prelude.{◌≡◌, ℕ, false, List, [], Contains, None, Some, ◌⊎◌}
use Rattle.sw_hashpath.specs.Places.{IsPlaceOf}
use Rattle.sw_hashpath.specs.declared.name.Name.{Name}
use Rattle.sw_hashpath.specs.declared.place.Place.{Place}
use Rattle.sw_listing_laws.specs.Laws.{IsNew, IsSettled}
use Rattle.sw_listing_laws.specs.Plain.{Cluster, RunsSoundly}
use Rattle.sw_machine.specs.Machine.{KnownWrite, Machine, RunLine}
use Rattle.sw_object_steps.specs.BaseRows.{IsRowOf}
use Rattle.sw_pending.specs.Rules.{is_done}
use Rattle.sw_pending.specs.declared.filed.Filed.{Filed}
use Rattle.sw_point_laws.specs.Laws.{ground_of, ledger_of}
use Rattle.sw_rows.specs.declared.row.Row.{Row}
use Rattle.sw_shard_laws.specs.Ledger.{Holds}
use Rattle.sw_state.specs.Bases.{base_at, base_time}
use Rattle.sw_state.specs.declared.base.Base.{Base}

-- a run begins with nothing, and no container was created at any device
pub record IsBare (c : Cluster) (m : Machine) : Type 0 where
  pub new : IsNew c m
  pub none : (device : ℕ) (place : Place) → m.containers.half.holds device place ≡ None

-- a record of a put or deletion of this name stands at the device, and this device of its container isn't marked in it
pub record WaitsAt (m : Machine) (at : ℕ) (name : Name) (base : Base) (to : ℕ) : Type 0 where
  pub filed : Filed
  pub stands : (m.objects.half.holds at name.hash).records (record { hash = name.hash; time = base_time base }) ≡ Some filed
  pub name_is : filed.name ≡ name
  pub unmarked : is_done to filed.done ≡ false

-- one does at some device
pub record Waits (m : Machine) (name : Name) (base : Base) (to : ℕ) : Type 0 where
  pub at : ℕ
  pub waits : WaitsAt m at name base to

-- After any run in which all keep to their parts, whatever failed, was lost, came again or was restarted: of each put and deletion that reached any device, and
-- for each replica of its container, a record waits in which the replica isn't marked, or the replica holds it
abbrev pub WritesAreRecordedOrHeld : Type 0
WritesAreRecordedOrHeld = (c : Cluster) (m : Machine) (lines : List RunLine) (after : Machine) → IsBare c m → RunsSoundly c [] m lines after
    → (d : ℕ) (n : KnownWrite) (base : Base) → Contains after.objects.known (d, n) → base_at n.write.time n.write.kind ≡ Some base
    → (place : Place) → IsPlaceOf c.nodes.secrets n.name place → (device : ℕ) → Contains (c.replicas place) device
    → (row : Row) → IsRowOf n.name.object base row
    → Waits after n.name base device ⊎ Holds (ground_of c.replicas) (ledger_of after) device place row

-- So where no record of a container is pending, each of its replicas holds each put and deletion of the container that reached any device. It has its row, or
-- one of its name that counts at least as much; or it leaves the name to a shard, each replica of which has such a row
abbrev pub SettledContainersHoldAll : Type 0
SettledContainersHoldAll = (c : Cluster) (m : Machine) (lines : List RunLine) (after : Machine) → IsBare c m → RunsSoundly c [] m lines after
    → (place : Place) → IsSettled c after place → (device : ℕ) → Contains (c.replicas place) device → (d : ℕ) (n : KnownWrite) (base : Base)
    → Contains after.objects.known (d, n) → IsPlaceOf c.nodes.secrets n.name place → base_at n.write.time n.write.kind ≡ Some base → (row : Row)
    → IsRowOf n.name.object base row → Holds (ground_of c.replicas) (ledger_of after) device place row
