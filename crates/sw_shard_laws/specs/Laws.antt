-- What is promised of ledgers. (This project's own.)
use Rattle.std.specs.Prelude.{◌≡◌, ℕ, ◌≤◌, ◌<◌, true, false, ◌∷◌, List, [], length, map, All, None, Some, IsSome, Contains, ◌⊎◌}
use Rattle.sw_hashpath.specs.declared.place.Place.{Place}
use Rattle.sw_rows.specs.Rows.{IsListed}
use Rattle.sw_rows.specs.declared.numbered.Numbered.{Numbered}
use Rattle.sw_rows.specs.declared.row.Row.{Row}
use Rattle.sw_shard_range.specs.Laws.{AreTiled}
use Rattle.sw_shard_range.specs.Names.{is_hidden}
use Rattle.sw_shard_range.specs.Ranges.{index_in as index_among}
use Rattle.sw_shard_range.specs.declared.range.Range.{Range}
use Rattle.sw_sync.specs.Points.{point_at}
use Rattle.sw_shard_laws.specs.Changes.{AreFit, CanAck, CanSync, Line, Makes, Runs, left}
use Rattle.sw_shard_laws.specs.Changes.Change.{Merges, Acks, Syncs, Closes}
use Rattle.sw_shard_laws.specs.Ledger.{AllHave, Ground, Has, Holds, IsUnder, Ledger, Stands, StandsIn, Table, Way}
use Rattle.sw_shard_laws.specs.Ledger.{index_in, served, shard_in, table_at, way_of}
use Rattle.sw_shard_laws.specs.Sound.{PointsHold}

-- ---- what every change keeps

-- nothing was created yet
abbrev pub begun : Ledger
begun = λ device place. None

abbrev pub BegunIsSound : Type 0
BegunIsSound = (g : Ground) → PointsHold g begun

abbrev pub ChangesKeepPoints : Type 0
ChangesKeepPoints = (g : Ground) (m : Ledger) (line : Line) (after : Ledger) → Makes g m line after → PointsHold g m → PointsHold g after

abbrev pub RunsKeepPoints : Type 0
RunsKeepPoints = (g : Ground) (m : Ledger) (lines : List Line) (after : Ledger) → Runs g m lines after → PointsHold g m → PointsHold g after

-- what a replica holds it holds from then on
abbrev pub HeldStays : Type 0
HeldStays = (g : Ground) (m : Ledger) (lines : List Line) (after : Ledger) → Runs g m lines after → PointsHold g m
    → (device : ℕ) (place : Place) (row : Row) → Holds g m device place row → Holds g after device place row

-- and what a hidden container has, as each shard is, it has itself
abbrev pub HiddenRowsStay : Type 0
HiddenRowsStay = (g : Ground) (m : Ledger) (lines : List Line) (after : Ledger) → Runs g m lines after → PointsHold g m
    → (device : ℕ) (place : Place) (row : Row) → is_hidden place ≡ true → Has (table_at m device place).rows row → Has (table_at after device place).rows row

-- ---- what single changes come to, then and ever after

-- a row that was merged is held
abbrev pub MergedIsHeld : Type 0
MergedIsHeld = (g : Ground) (m : Ledger) (device : ℕ) (place : Place) (row : Row) (mid : Ledger) (lines : List Line) (after : Ledger) → PointsHold g m
    → Makes g m (record { device = device; place = place; change = Merges row }) mid → Runs g mid lines after → Holds g after device place row

-- each row that the replica which closes a range then has of it is at each replica of its shard
abbrev pub ClosedIsAtShards : Type 0
ClosedIsAtShards = (g : Ground) (m : Ledger) (device : ℕ) (place : Place) (devices : List ℕ) (mid : Ledger) (lines : List Line) (after : Ledger)
    → PointsHold g m → Makes g m (record { device = device; place = place; change = Closes devices }) mid → Runs g mid lines after
    → (shard : Place) (n : Numbered) → StandsIn (table_at m device place) (table_at m device place).cursor shard n → AllHave g after shard n.row

-- where a replica leaves a name to a shard, it holds what each replica of the shard has
abbrev pub RedirectedIsHeld : Type 0
RedirectedIsHeld = (g : Ground) (m : Ledger) (device : ℕ) (place : Place) (row : Row) (shard : Place)
    → served (table_at m device place) row.name ≡ Some shard → AllHave g m shard row → Holds g m device place row

-- a point that is raised isn't below the number to which it is raised
abbrev pub NumbersAreKept : Type 0
NumbersAreKept = (t : Table) (range device rowid : ℕ) → IsUnder (point_at (left t (Acks range device rowid)).points range device) rowid
    × IsUnder (point_at (left t (Syncs device rowid)).syncs 0 device) rowid

-- ---- what is known of a ledger to which changes led from nothing

abbrev pub PointsTell : Type 0
PointsTell = (g : Ground) (lines : List Line) (m : Ledger) → Runs g begun lines m
    → (device : ℕ) (place : Place) (range other : ℕ) (shard : Place) (n : Numbered) → StandsIn (table_at m device place) range shard n
    → IsUnder (point_at (table_at m device place).points range other) n.rowid → Has (table_at m other shard).rows n.row

abbrev pub SyncPointsTell : Type 0
SyncPointsTell = (g : Ground) (lines : List Line) (m : Ledger) → Runs g begun lines m
    → (device : ℕ) (place : Place) (other : ℕ) (n : Numbered) → Stands (table_at m device place) n
    → IsUnder (point_at (table_at m device place).syncs 0 other) n.rowid → Holds g m other place n.row

-- what a replica has it holds: also where it left the name to a shard since
abbrev pub HadIsHeld : Type 0
HadIsHeld = (g : Ground) (lines : List Line) (m : Ledger) → Runs g begun lines m
    → (device : ℕ) (place : Place) (row : Row) → Has (table_at m device place).rows row → Holds g m device place row

-- and no row is made up: each one that stands was merged there
abbrev pub RowsWereMerged : Type 0
RowsWereMerged = (g : Ground) (lines : List Line) (m : Ledger) → Runs g begun lines m
    → (device : ℕ) (place : Place) (n : Numbered) → Stands (table_at m device place) n
    → Contains lines (record { device = device; place = place; change = Merges n.row })

-- of a container with ranges each name is in one, and each leads to a hidden container that was created at each of its replicas
abbrev pub ShardsAreMade : Type 0
ShardsAreMade = (g : Ground) (lines : List Line) (m : Ledger) → Runs g begun lines m
    → (device : ℕ) (place : Place) (ways : List Way) → (table_at m device place).ways ≡ Some ways
    → ((name : List ℕ) → index_in ways name < length ways)
    × ((range : ℕ) (shard : Place) → shard_in ways range ≡ Some shard
    → (is_hidden shard ≡ true) × ((other : ℕ) → Contains (g.ring shard) other → IsSome (m other shard)))

-- a container whose rows were taken away has none, and each name is left to a shard
abbrev pub EmptiedIsServed : Type 0
EmptiedIsServed = (g : Ground) (lines : List Line) (m : Ledger) → Runs g begun lines m
    → (device : ℕ) (place : Place) → (table_at m device place).emptied ≡ true
    → ((table_at m device place).rows.list ≡ []) × ((name : List ℕ) → (shard : Place) × (served (table_at m device place) name ≡ Some shard))

-- ---- what goes on whatever changes are made

-- a later table of the same container at the same device: numbers go on, a row under a number that was given out before is one of before, whom a name is
-- left to and the ranges stay, and the cursor and all points only rise
pub record IsLater (t later : Table) : Type 0 where
  pub top : t.rows.top ≤ later.rows.top
  pub rows : (n : Numbered) → Stands later n → n.rowid ≤ t.rows.top → Stands t n
  pub serving : (name : List ℕ) (shard : Place) → served t name ≡ Some shard → served later name ≡ Some shard
  pub split : (ways : List Way) → t.ways ≡ Some ways → (later.ways ≡ Some ways) × (t.cursor ≤ later.cursor)
  pub points : (range device rowid : ℕ) → IsUnder (point_at t.points range device) rowid → IsUnder (point_at later.points range device) rowid
  pub syncs : (device rowid : ℕ) → IsUnder (point_at t.syncs 0 device) rowid → IsUnder (point_at later.syncs 0 device) rowid
  pub emptied : t.emptied ≡ true → later.emptied ≡ true

-- and what was created stays
abbrev pub TablesGoOn : Type 0
TablesGoOn = (g : Ground) (m : Ledger) (lines : List Line) (after : Ledger) → Runs g m lines after
    → (device : ℕ) (place : Place) → IsLater (table_at m device place) (table_at after device place) × (IsSome (m device place) → IsSome (after device place))

-- ---- that all this can be

-- Changes lead from nothing to a container that has a row, and from there to one whose rows were taken away and which leaves the name to its shard, that of a
-- range of all names, and each replica of the shard has the row: here where one device keeps both.
abbrev pub CanBeSplit : Type 0
CanBeSplit = (g : Ground) (device : ℕ) (place shard : Place) (row : Row) → g.ring shard ≡ device ∷ [] → is_hidden place ≡ false → is_hidden shard ≡ true
    → (lines : List Line) × (m : Ledger) × Runs g begun lines m × Has (table_at m device place).rows row
    × (more : List Line) × (after : Ledger) × Runs g m more after × ((table_at after device place).emptied ≡ true)
    × (served (table_at after device place) row.name ≡ Some shard) × AllHave g after shard row

-- ---- how callers come to what they see to

-- ranges that together are all names, each once, and that lead to hidden containers are fit, and a name has the same index among them
abbrev pub TiledRangesFit : Type 0
TiledRangesFit = (ranges : List Range) → AreTiled ranges → All (λ r. is_hidden r.shard ≡ true) ranges
    → AreFit (map way_of ranges) × ((name : List ℕ) → index_in (map way_of ranges) name ≡ index_among ranges name)

-- Once a device of the shard has each row that the table had of the range above some number, the point of that device can be raised to the greatest number
-- that was given out then: where that first number is 0, or under the device's point. Meanwhile the table may have gone on.
abbrev pub ParcelRaisesAPoint : Type 0
ParcelRaisesAPoint = (m : Ledger) (t later : Table) (range device above : ℕ) → IsListed t.rows → IsSome t.ways → IsLater t later
    → (above ≡ 0) ⊎ IsUnder (point_at later.points range device) above
    → ((shard : Place) (n : Numbered) → StandsIn t range shard n → above < n.rowid → Has (table_at m device shard).rows n.row)
    → CanAck m later range device t.rows.top

-- and so the sync point of another replica that holds each row that the table had above some number
abbrev pub ParcelRaisesASyncPoint : Type 0
ParcelRaisesASyncPoint = (g : Ground) (m : Ledger) (place : Place) (t later : Table) (device above : ℕ) → IsListed t.rows → IsLater t later
    → (above ≡ 0) ⊎ IsUnder (point_at later.syncs 0 device) above
    → ((n : Numbered) → Stands t n → above < n.rowid → Holds g m device place n.row)
    → CanSync g m place later device t.rows.top
