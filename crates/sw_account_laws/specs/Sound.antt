-- What holds of a machine and its account where nothing is on its way, whatever was done before by runs in which all keep to their parts. (This project's
-- own.)
use Rattle.std.specs.Prelude.{◌≡◌, ℕ, true, false, List, [], Contains, Some, ◌⊎◌}
use Rattle.std.specs.List.{All}
use Rattle.sw_container_steps.specs.Entries.{rows_of}
use Rattle.sw_hashpath.specs.Places.{IsPlaceOf}
use Rattle.sw_hashpath.specs.declared.place.Place.{Place}
use Rattle.sw_held_laws.specs.Laws.{WaitsAt}
use Rattle.sw_keeper.specs.declared.tables.Tables.{Tables}
use Rattle.sw_listing_laws.specs.Plain.{Cluster, IsNamed, IsOfWrite}
use Rattle.sw_machine.specs.Machine.{Machine}
use Rattle.sw_machine.specs.Sides.{TellsAt}
use Rattle.sw_object_steps.specs.BaseRows.{IsRowOf}
use Rattle.sw_object_steps.specs.Journals.{Hash}
use Rattle.sw_peer.specs.Sights.{cont_lock}
use Rattle.sw_pending.specs.declared.filed.Filed.{Filed}
use Rattle.sw_pending.specs.declared.key.RecordKey.{RecordKey}
use Rattle.sw_point_laws.specs.Laws.{ground_of, ledger_of}
use Rattle.sw_rows.specs.Rows.{IsListed}
use Rattle.sw_rows.specs.declared.numbered.Numbered.{Numbered}
use Rattle.sw_rows.specs.declared.row.Row.{Row}
use Rattle.sw_shard_laws.specs.Ledger.{Holds}
use Rattle.sw_shard_laws.specs.Sound.{PointsHold}
use Rattle.sw_shard_range.specs.Laws.{AreTiled}
use Rattle.sw_shard_range.specs.Names.{is_hidden}
use Rattle.sw_shard_range.specs.declared.range.Range.{Range}
use Rattle.sw_split_steps.specs.Tables.{IsInOrder}
use Rattle.sw_state.specs.Bases.{base_at}
use Rattle.sw_state.specs.States.{state_of}
use Rattle.sw_state.specs.declared.base.Base.{Base}
use Rattle.sw_account_laws.specs.Accounts.{Account, IsAccount, Written, written_at}

-- ---- objects

module _ (c : Cluster) (m : Machine) (account : Account) where
  -- each hash directory stands for the state of the writes that reached its device under its hash
  abbrev pub StandForWrites : Type 0
  StandForWrites = (device : ℕ) (hash : Hash) → (m.objects.half.holds device hash).state ≡ state_of (written_at account device hash)

  -- each name has its own hash: that of each write, and that of each record that stands
  abbrev pub WritesAreNamed : Type 0
  WritesAreNamed = (w : Written) → Contains account w → IsNamed c w.name

  abbrev pub RecordsAreNamed : Type 0
  RecordsAreNamed = (device : ℕ) (key : RecordKey) (filed : Filed) → (m.objects.half.holds device key.hash).records key ≡ Some filed
      → filed.name ≡ c.names key.hash

  -- each put or deletion was asked for at some device, by a client
  abbrev pub AreAskedFor : Type 0
  AreAskedFor = (w : Written) (base : Base) → Contains account w → base_at w.write.time w.write.kind ≡ Some base
      → (first : Written) × Contains account first × (first.asked ≡ true) × (first.name ≡ w.name) × (first.write ≡ w.write)

  -- for each that a client asked a device for, and each replica of its container: its record waits at that device, without a mark of the replica, or the
  -- replica holds its row
  abbrev pub AreRecordedOrHeld : Type 0
  AreRecordedOrHeld = (w : Written) (base : Base) → Contains account w → w.asked ≡ true → base_at w.write.time w.write.kind ≡ Some base
      → (place : Place) → IsPlaceOf c.nodes.secrets w.name place → (device : ℕ) → Contains (c.replicas place) device
      → (row : Row) → IsRowOf w.name.object base row
      → WaitsAt m w.device w.name base device ⊎ Holds (ground_of c.replicas) (ledger_of m) device place row

-- ---- containers

module _ (c : Cluster) (root : Place → Place) (m : Machine) where
  -- each row of a container that isn't hidden, and of each of its shards, is that of a put or deletion of one of its objects which reached some device
  abbrev pub RowsAreOfWrites : Type 0
  RowsAreOfWrites = (device : ℕ) (place : Place) → is_hidden (root place) ≡ false → (n : Numbered)
      → Contains (rows_of (m.containers.half.holds device place)).list n → IsOfWrite c m (root place) n.row

  -- the ranges of a container are all names, each once, and lead to shards of it
  abbrev pub RangesLeadToShards : Type 0
  RangesLeadToShards = (device : ℕ) (place : Place) (t : Tables) (ranges : List Range) → m.containers.half.holds device place ≡ Some t
      → t.ranges ≡ Some ranges → All (λ range. root range.shard ≡ root place) ranges × AreTiled ranges

-- ---- all of it

pub record IsSound (c : Cluster) (root : Place → Place) (m : Machine) (account : Account) : Type 0 where
  pub known : IsAccount m account
  pub quiet : m.sent ≡ []
  pub objects_tell : (device : ℕ) (hash : Hash) → TellsAt c.nodes.lock m.objects device hash
  pub containers_tell : (device : ℕ) (place : Place) → TellsAt (cont_lock c.nodes) m.containers device place
  pub stand : StandForWrites c m account
  pub named : WritesAreNamed c m account
  pub filed : RecordsAreNamed c m account
  pub origin : AreAskedFor c m account
  pub recorded : AreRecordedOrHeld c m account
  pub rows : RowsAreOfWrites c root m
  pub ranges : RangesLeadToShards c root m
  -- No point is above the greatest number given out, and each tells truly what another device has. Only a container that isn't hidden has ranges, and each
  -- shard was created at each of its replicas. Where rows were taken away there is none, and each range is closed
  pub points : PointsHold (ground_of c.replicas) (ledger_of m)
  pub ordered : (device : ℕ) (place : Place) → IsInOrder (m.containers.half.holds device place)
  pub listed : (device : ℕ) (place : Place) → IsListed (rows_of (m.containers.half.holds device place))
