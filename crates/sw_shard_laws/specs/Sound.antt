-- What holds of a ledger in which every point tells truly what another replica has. (This project's own.)
use Rattle.std.specs.Prelude.{◌≡◌, ℕ, ◌≤◌, true, List, [], length, unwrap_or, None, Some}
use Rattle.sw_hashpath.specs.declared.place.Place.{Place}
use Rattle.sw_rows.specs.declared.numbered.Numbered.{Numbered}
use Rattle.sw_sync.specs.Points.{point_at}
use Rattle.sw_shard_laws.specs.Changes.{AreClosed, CanSplit}
use Rattle.sw_shard_laws.specs.Ledger.{Ground, Has, Holds, IsUnder, Ledger, Stands, StandsIn, Table, Way, table_at}

-- no point is above the greatest number given out, and a container without ranges has none of a range
pub record AreLow (t : Table) : Type 0 where
  pub points : (range device point : ℕ) → point_at t.points range device ≡ Some point → point ≤ t.rows.top
  pub syncs : (device point : ℕ) → point_at t.syncs 0 device ≡ Some point → point ≤ t.rows.top
  pub none : t.ways ≡ None → (range device : ℕ) → point_at t.points range device ≡ None

-- what is true of the table that a device has of this container
pub record IsFine (g : Ground) (m : Ledger) (place : Place) (t : Table) : Type 0 where
  pub low : AreLow t
  -- each row of a range that is under the point of a device of its shard, that device has
  pub points : (range device : ℕ) (shard : Place) (n : Numbered) → StandsIn t range shard n → IsUnder (point_at t.points range device) n.rowid
      → Has (table_at m device shard).rows n.row
  -- each row that is under the sync point of a replica, that replica holds
  pub syncs : (device : ℕ) (n : Numbered) → Stands t n → IsUnder (point_at t.syncs 0 device) n.rowid → Holds g m device place n.row
  -- only a container that isn't hidden has ranges; they are fit, and each shard was created at each of its replicas
  pub lists : (ways : List Way) → t.ways ≡ Some ways → CanSplit g m place ways
  pub cursor : t.cursor ≤ length (unwrap_or t.ways [])
  -- rows are taken away only once every range is closed, and no row comes in their place
  pub emptied : t.emptied ≡ true → (t.rows.list ≡ []) × AreClosed t

abbrev pub PointsHold : Ground → Ledger → Type 0
PointsHold g m = (device : ℕ) (place : Place) → IsFine g m place (table_at m device place)
