-- How a ledger goes on: by single changes of what one device has of one container. (This project's own; the steps are those of OpenStack Swift's container
-- server and sharder.)
--
-- A step at a node makes a list of them, and one that failed has made all of them or none. Each has what the step itself tests, of the table that it changes,
-- and what the caller of the step sees to, of what all devices have as it is made. What shards have and what replicas hold only rises, so an acknowledgement
-- from before says as much.
use Rattle.std.specs.Prelude.{◌≡◌, ⊤, ℕ, ◌+◌, ◌<◌, ◌≤◌, true, false, List, [], ◌∷◌, length, None, Some, IsSome, Contains, ◌⊎◌}
use Rattle.sw_hashpath.specs.declared.place.Place.{Place}
use Rattle.sw_rows.specs.Rows.{merged, no_rows_at}
use Rattle.sw_rows.specs.declared.numbered.Numbered.{Numbered}
use Rattle.sw_rows.specs.declared.row.Row.{Row}
use Rattle.sw_shard_range.specs.Names.{is_hidden}
use Rattle.sw_sync.specs.Points.{point_at, raised}
use Rattle.sw_shard_laws.specs.Ledger.{Ground, Has, Holds, IsUnder, Ledger, Stands, StandsIn, Table, Way, index_in, served, shard_in, table_at}

pub data Change : Type 0 where
  Creates : Change
  Merges : (row : Row) → Change
  Splits : (ways : List Way) → Change  -- the list of ranges is set
  Acks : (range device rowid : ℕ) → Change  -- a point of a device of the range's shard is raised
  Syncs : (device rowid : ℕ) → Change  -- the sync point of another replica is raised
  Closes : (devices : List ℕ) → Change  -- the range at the cursor is closed, whose shard has these devices
  Empties : Change  -- the rows are taken away

-- what a change leaves of the table. A point that is kept stays where it is the greater
abbrev pub left : Table → Change → Table
left t Creates = t
left t (Merges row) = record t { rows = merged t.rows row }
left t (Splits ways) = record t { ways = Some ways; cursor = 0 }
left t (Acks range device rowid) = record t { points = raised t.points range device rowid }
left t (Syncs device rowid) = record t { syncs = raised t.syncs 0 device rowid }
left t (Closes devices) = record t { cursor = t.cursor + 1 }
left t Empties = record t { rows = no_rows_at t.rows.top; emptied = true }

-- ---- what the step itself tests

-- each row of the range at the cursor is under the point of this device
abbrev pub IsAckedBy : Table → ℕ → Type 0
IsAckedBy t device = (shard : Place) (n : Numbered) → StandsIn t t.cursor shard n → IsUnder (point_at t.points t.cursor device) n.rowid

-- there is a range at the cursor, whose rows each of these devices acknowledged
pub record CanClose (t : Table) (devices : List ℕ) : Type 0 where
  pub ways : List Way
  pub split : t.ways ≡ Some ways
  pub is_open : t.cursor < length ways
  pub acked : (device : ℕ) → Contains devices device → IsAckedBy t device

-- the container has ranges, and all are closed
pub record AreClosed (t : Table) : Type 0 where
  pub ways : List Way
  pub split : t.ways ≡ Some ways
  pub closed : length ways ≤ t.cursor

-- a row whose name is left to a shard is redirected, a list is set once, and only what has one has points of ranges
abbrev pub Tests : Table → Change → Type 0
Tests t Creates = ⊤
Tests t (Merges row) = served t row.name ≡ None
Tests t (Splits ways) = t.ways ≡ None
Tests t (Acks range device rowid) = IsSome t.ways
Tests t (Syncs device rowid) = ⊤
Tests t (Closes devices) = CanClose t devices
Tests t Empties = AreClosed t

-- ---- what its caller sees to

-- ranges of which each name is in one, and each leads to a hidden container
pub record AreFit (ways : List Way) : Type 0 where
  pub within : (name : List ℕ) → index_in ways name < length ways
  pub hidden : (range : ℕ) (shard : Place) → shard_in ways range ≡ Some shard → is_hidden shard ≡ true

-- a container that isn't hidden is split, by ranges that are fit, once each shard was created at each of its replicas
pub record CanSplit (g : Ground) (m : Ledger) (place : Place) (ways : List Way) : Type 0 where
  pub plain : is_hidden place ≡ false
  pub fit : AreFit ways
  pub made : (range : ℕ) (shard : Place) (device : ℕ) → shard_in ways range ≡ Some shard → Contains (g.ring shard) device → IsSome (m device shard)

-- up to a number that was given out, the device of the shard has each row of the range that isn't under its point already
pub record CanAck (m : Ledger) (t : Table) (range device rowid : ℕ) : Type 0 where
  pub given_out : rowid ≤ t.rows.top
  pub acked : (shard : Place) (n : Numbered) → StandsIn t range shard n → n.rowid ≤ rowid
      → IsUnder (point_at t.points range device) n.rowid ⊎ Has (table_at m device shard).rows n.row

-- up to a number that was given out, the other replica holds each row that isn't under its sync point already
pub record CanSync (g : Ground) (m : Ledger) (place : Place) (t : Table) (device rowid : ℕ) : Type 0 where
  pub given_out : rowid ≤ t.rows.top
  pub acked : (n : Numbered) → Stands t n → n.rowid ≤ rowid → IsUnder (point_at t.syncs 0 device) n.rowid ⊎ Holds g m device place n.row

-- all replicas of the shard of the range at the cursor are among these devices
abbrev pub AreAll : Ground → Table → List ℕ → Type 0
AreAll g t devices = (ways : List Way) (shard : Place) → t.ways ≡ Some ways → shard_in ways t.cursor ≡ Some shard → (device : ℕ)
    → Contains (g.ring shard) device → Contains devices device

abbrev pub Allows : Ground → Ledger → Place → Table → Change → Type 0
Allows g m place t Creates = ⊤
Allows g m place t (Merges row) = ⊤
Allows g m place t (Splits ways) = CanSplit g m place ways
Allows g m place t (Acks range device rowid) = CanAck m t range device rowid
Allows g m place t (Syncs device rowid) = CanSync g m place t device rowid
Allows g m place t (Closes devices) = AreAll g t devices
Allows g m place t Empties = ⊤

-- ---- changes, one after the other

-- the container has this table at the device now, and all others are as they were
pub record IsSet (device : ℕ) (place : Place) (t : Table) (m after : Ledger) : Type 0 where
  pub here : after device place ≡ Some t
  pub each : (d : ℕ) (p : Place) → (after d p ≡ m d p) ⊎ ((d ≡ device) × (p ≡ place))

-- a change of a container at a device
pub record Line : Type 0 where
  pub device : ℕ
  pub place : Place
  pub change : Change

pub record Makes (g : Ground) (m : Ledger) (line : Line) (after : Ledger) : Type 0 where
  pub tested : Tests (table_at m line.device line.place) line.change
  pub allowed : Allows g m line.place (table_at m line.device line.place) line.change
  pub leaves : IsSet line.device line.place (left (table_at m line.device line.place) line.change) m after

abbrev pub Runs : Ground → Ledger → List Line → Ledger → Type 0
Runs g m [] after = after ≡ m
Runs g m (line ∷ lines) after = (mid : Ledger) × Makes g m line mid × Runs g mid lines after
