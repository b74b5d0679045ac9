-- When a container that is split can be listed exactly. (This project's own.)
use Rattle.std.specs.Prelude.{◌≡◌, ℕ, true, List, Some}
use Rattle.std.specs.List.{All, Contains}
use Rattle.sw_container_steps.specs.Entries.{rows_of}
use Rattle.sw_container_steps.specs.Serving.{IsUnsplit}
use Rattle.sw_hashpath.specs.BadNames.{is_text}
use Rattle.sw_hashpath.specs.Places.{IsPlaceOf}
use Rattle.sw_hashpath.specs.declared.place.Place.{Place}
use Rattle.sw_keeper.specs.declared.tables.Tables.{Tables}
use Rattle.sw_listing_laws.specs.Plain.{Cluster, IsNamed, IsOfWrite}
use Rattle.sw_machine.specs.Machine.{KnownWrite, Machine}
use Rattle.sw_object_steps.specs.BaseRows.{IsRowOf}
use Rattle.sw_point_laws.specs.Laws.{ground_of, ledger_of}
use Rattle.sw_rows.specs.Rows.{IsListed}
use Rattle.sw_rows.specs.declared.numbered.Numbered.{Numbered}
use Rattle.sw_rows.specs.declared.row.Row.{Row}
use Rattle.sw_shard_laws.specs.Ledger.{Holds}
use Rattle.sw_shard_range.specs.Laws.{AreTiled}
use Rattle.sw_shard_range.specs.declared.range.Range.{Range}
use Rattle.sw_state.specs.Bases.{base_at}
use Rattle.sw_state.specs.declared.base.Base.{Base}

-- each put or deletion that reached a device is of an object with the name of its hash, which is text without a byte 0: so there is a row of it, and there is
-- room for bounds between names
abbrev pub AreNamed : Cluster → Machine → Type 0
AreNamed c m = (device : ℕ) (n : KnownWrite) → Contains m.objects.known (device, n) → IsNamed c n.name × (is_text n.name.object ≡ true)

-- What is known of a container that can be listed exactly. `root` tells of which container each place is a shard, and of one that is none itself
pub record IsShowable (c : Cluster) (root : Place → Place) (m : Machine) (place : Place) : Type 0 where
  -- each replica of the container holds each put and deletion of it that reached any device
  pub held : (device : ℕ) → Contains (c.replicas place) device → (d : ℕ) (n : KnownWrite) (base : Base) → Contains m.objects.known (d, n)
      → IsPlaceOf c.nodes.secrets n.name place → base_at n.write.time n.write.kind ≡ Some base → (row : Row) → IsRowOf n.name.object base row
      → Holds (ground_of c.replicas) (ledger_of m) device place row
  -- each row of the container, and of each of its shards, is that of such a put or deletion
  pub rows : (device : ℕ) (at : Place) → root at ≡ place → (n : Numbered) → Contains (rows_of (m.containers.half.holds device at)).list n
      → IsOfWrite c m place n.row
  pub own : root place ≡ place
  -- wherever it has ranges they are all names, each once, and lead to shards of it
  pub shards : (device : ℕ) (t : Tables) (ranges : List Range) → m.containers.half.holds device place ≡ Some t → t.ranges ≡ Some ranges
      → All (λ range. root range.shard ≡ place) ranges × AreTiled ranges
  -- which aren't split themselves
  pub unsplit : (device : ℕ) (t : Tables) (ranges : List Range) → m.containers.half.holds device place ≡ Some t → t.ranges ≡ Some ranges
      → All (λ range. (other : ℕ) → IsUnsplit (m.containers.half.holds other range.shard)) ranges
  -- and each name has one row in each of them
  pub listed : (device : ℕ) (at : Place) → root at ≡ place → IsListed (rows_of (m.containers.half.holds device at))
