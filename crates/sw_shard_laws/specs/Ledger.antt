-- What each device has of each container, and what a replica holds, while containers are split into shards. (OpenStack Swift's sharder moves the rows of a
-- container into shards, range by range; that a replica which has closed a range leaves its names to the shard from then on is this project's own.)
--
-- The times of a container are no part of it: a deletion leaves its rows and ranges as they are, and so does a creation of what was created before.
use Rattle.std.specs.Prelude.{◌≡◌, ℕ, ◌≤◌, Bool, true, false, nat_lt, if◌then◌else◌, List, [], find, unwrap_or, Option, None, Some, Contains}
use Rattle.std.specs.List.{prefix_len, slice_get}
use Rattle.std.specs.Option.{option_map}
use Rattle.sw_hashpath.specs.declared.place.Place.{Place}
use Rattle.sw_rows.specs.Rows.{Listed, find_named, is_at_least, is_named, no_rows}
use Rattle.sw_rows.specs.declared.numbered.Numbered.{Numbered}
use Rattle.sw_rows.specs.declared.row.Row.{Row}
use Rattle.sw_shard_range.specs.Names.{is_beyond}
use Rattle.sw_shard_range.specs.declared.range.Range.{Range}
use Rattle.sw_sync.specs.Points.{PointList}

-- what never changes: the devices of each container's replicas
pub record Ground : Type 0 where
  pub ring : Place → List ℕ

-- ---- tables

-- what of a range tells where a name is: its upper bound, and the shard that has its rows. How far the range has come doesn't matter
pub record Way : Type 0 where
  pub upper : List ℕ
  pub shard : Place

abbrev pub way_of : Range → Way
way_of r = record { upper = r.upper; shard = r.shard }

-- what a device has of a container
pub record Table : Type 0 where
  pub rows : Listed
  pub ways : Option (List Way)  -- of its ranges; none where it has no list of them
  pub cursor : ℕ  -- how many ranges are closed: the first ones
  pub points : PointList  -- up to which number each device of a range's shard has the rows of the range
  pub syncs : PointList  -- up to which number each other replica has the rows; they are kept for the first range, 0
  pub emptied : Bool  -- whether the rows were taken away

-- what was just created
abbrev pub fresh : Table
fresh = record { rows = no_rows; ways = None; cursor = 0; points = []; syncs = []; emptied = false }

-- the tables of each device and container, none where it was never created
abbrev pub Ledger : Type 0
Ledger = ℕ → Place → Option Table

abbrev pub table_at : Ledger → ℕ → Place → Table
table_at m device place = unwrap_or (m device place) fresh

-- a row stands in the table under its number
abbrev pub Stands : Table → Numbered → Type 0
Stands t n = find (is_named n.row.name) t.rows.list ≡ Some n

-- a number is kept, and isn't below this one
abbrev pub IsUnder : Option ℕ → ℕ → Type 0
IsUnder kept rowid = (point : ℕ) × (kept ≡ Some point) × (rowid ≤ point)

-- ---- where a name is

-- the index of the first range whose upper bound is none or isn't below the name: how many ranges stand before it
abbrev pub index_in : List Way → List ℕ → ℕ
index_in ways name = prefix_len (λ w. is_beyond w.upper name) ways

abbrev pub shard_in : List Way → ℕ → Option Place
shard_in ways range = option_map (λ w. w.shard) (slice_get ways range)

-- the shard that a name is left to: that of its range, where it is closed
abbrev pub served_in : Option (List Way) → ℕ → List ℕ → Option Place
served_in None cursor name = None
served_in (Some ways) cursor name = if nat_lt (index_in ways name) cursor then shard_in ways (index_in ways name) else None

abbrev pub served : Table → List ℕ → Option Place
served t name = served_in t.ways t.cursor name

-- a row that stands in the range of this index, whose shard this is
pub record StandsIn (t : Table) (range : ℕ) (shard : Place) (n : Numbered) : Type 0 where
  pub stands : Stands t n
  pub ways : List Way
  pub split : t.ways ≡ Some ways
  pub index : index_in ways n.row.name ≡ range
  pub shard_is : shard_in ways range ≡ Some shard

-- ---- what a replica holds

-- among the rows is this one, or one of its name that counts at least as much
abbrev pub Has : Listed → Row → Type 0
Has l row = (there : Row) × (find_named l.list row.name ≡ Some there) × (is_at_least there row ≡ true)

-- each replica of the container has it
abbrev pub AllHave : Ground → Ledger → Place → Row → Type 0
AllHave g m place row = (device : ℕ) → Contains (g.ring place) device → Has (table_at m device place).rows row

abbrev pub HoldsBy : Ground → Ledger → Table → Row → Option Place → Type 0
HoldsBy g m t row None = Has t.rows row
HoldsBy g m t row (Some shard) = AllHave g m shard row

-- a replica holds a row: it has it, or where it leaves the name to a shard, each replica of that shard has it
abbrev pub Holds : Ground → Ledger → ℕ → Place → Row → Type 0
Holds g m device place row = HoldsBy g m (table_at m device place) row (served (table_at m device place) row.name)
