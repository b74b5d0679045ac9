-- What is known along a run of the rows and the lists that devices have, of what is on its way, and of the lines that are done.
use Rattle.std.proofs.Common.{◌≡◌, ℕ, List, Some, Ok, inl, inr}
use Rattle.std.proofs.lemmas.List.Elements.{All-weaker}
use Rattle.std.specs.Bool.{⊤}
use Rattle.std.specs.List.{All, Contains}
use Rattle.sw_container_steps.specs.Entries.{rows_of}
use Rattle.sw_container_steps.specs.declared.cont_answer.ContAnswer.TheVariants.{Redirect}
use Rattle.sw_container_steps.specs.declared.cont_change.ContChange.TheVariants.{MergeRow}
use Rattle.sw_container_steps.specs.declared.cont_entry.ContEntry.{ContEntry}
use Rattle.sw_container_steps.specs.declared.sharding.Sharding.{Sharding}
use Rattle.sw_hashpath.specs.declared.name.Name.{Name}
use Rattle.sw_hashpath.specs.declared.place.Place.{Place}
use Rattle.sw_listing_laws.proofs.Bringing.{HasOnly}
use Rattle.sw_listing_laws.specs.Plain.{Cluster, HadReached, IsOfWrite}
use Rattle.sw_machine.specs.Machine.{Came, ContSide, KnownWrite, Machine, RunLine, Went}
use Rattle.sw_machine.specs.Messages.{Creation_of, Message, Ranges_of, Row_of, Rows_of, Update_of, Write_of}
use Rattle.sw_peer.specs.declared.cont_event.ContEvent.TheVariants as cont_events
use Rattle.sw_peer.specs.declared.line.Event.{Event}
use Rattle.sw_peer.specs.declared.line.Event.TheVariants.{AtContainer}
use Rattle.sw_rows.specs.Rows.{Listed}
use Rattle.sw_rows.specs.declared.numbered.Numbered.{Numbered}
use Rattle.sw_rows.specs.declared.row.Row.{Row}
use Rattle.sw_shard_range.specs.declared.range.Range.{Range}
use Rattle.sw_state.specs.declared.base.Base.{Base}
use Rattle.sw_origin_laws.proofs.Lists.{AreListed, AreShards, list_of}
use Rattle.sw_origin_laws.specs.Roots.{IsRootedRow}

-- two places are of one container
abbrev pub IsOfOne : (Place → Place) → Place → Place → Type 0
IsOfOne root place shard = root shard ≡ root place

-- ---- what devices have

-- each row is that of a write, and each list names shards, of the container that its place is a shard of
pub record AreOfRoots (c : Cluster) (root : Place → Place) (m : Machine) (containers : ContSide) : Type 0 where
  pub rows : (device : ℕ) (place : Place) → HasOnly (IsRootedRow c root m place) (rows_of (containers.half.holds device place))
  pub lists : (device : ℕ) (place : Place) → AreListed (IsOfOne root place) (list_of (containers.half.holds device place))

-- ---- what is on its way

abbrev pub BringsOfRoot : Cluster → (Place → Place) → Machine → Message → Type 0
BringsOfRoot c root m (Write_of to name write) = ⊤
BringsOfRoot c root m (Row_of to place at row) = IsRootedRow c root m at row
BringsOfRoot c root m (Rows_of to place at rows) = All (IsRootedRow c root m at) rows
BringsOfRoot c root m (Update_of to filed place at row) = IsRootedRow c root m at row
BringsOfRoot c root m (Creation_of to place time) = ⊤
BringsOfRoot c root m (Ranges_of to place ranges) = AreShards (IsOfOne root place) ranges

abbrev pub AllBringOfRoot : Cluster → (Place → Place) → Machine → List Message → Type 0
AllBringOfRoot c root m sent = (message : Message) → Contains sent message → BringsOfRoot c root m message

-- ---- lines

-- a container leaves names to shards of its own container, and tells of lists that name such
pub record TellsOfRoot (root : Place → Place) (event : Event) : Type 0 where
  pub left : (place : Place) (row : Row) (shard : Place) (entries : List ContEntry)
      → event ≡ AtContainer (cont_events.Changed place (MergeRow row) (Redirect shard)) entries → IsOfOne root place shard
  pub listed : (place : Place) (sharding : Sharding) (entries : List ContEntry) (ranges : List Range)
      → event ≡ AtContainer (cont_events.Sharded place (Ok sharding)) entries → sharding.ranges ≡ Some ranges → AreShards (IsOfOne root place) ranges

abbrev pub Says : (Place → Place) → RunLine → Type 0
Says root (Came line) = TellsOfRoot root line.event
Says root (Went from message) = ⊤

abbrev pub AllSay : (Place → Place) → List RunLine → Type 0
AllSay root done = (line : RunLine) → Contains done line → Says root line

-- ---- all of it

pub record HasOrigins (c : Cluster) (root : Place → Place) (done : List RunLine) (m : Machine) : Type 0 where
  pub have : AreOfRoots c root m m.containers
  pub sent : AllBringOfRoot c root m m.sent
  pub say : AllSay root done

-- ---- what reached a device has reached it ever after

module _ (c : Cluster) (root : Place → Place) (m after : Machine)
    (known : (d : ℕ) (n : KnownWrite) → Contains m.objects.known (d, n) → Contains after.objects.known (d, n)) where
  reached-still : (name : Name) (base : Base) → HadReached m name base → HadReached after name base
  reached-still name base had = record {
    device = had.device;
    by = had.by;
    known = known had.device had.by had.known;
    name_is = had.name_is;
    base_is = had.base_is;
  }

  write-still : (place : Place) (row : Row) → IsOfWrite c m place row → IsOfWrite c after place row
  write-still place row is = record {
    name = is.name;
    base = is.base;
    reached = reached-still is.name is.base is.reached;
    place_is = is.place_is;
    row_is = is.row_is;
  }

  row-still : (place : Place) (row : Row) → IsRootedRow c root m place row → IsRootedRow c root after place row
  row-still place row (inl hidden) = inl hidden
  row-still place row (inr is) = inr (write-still (root place) row is)

  rows-still : (place : Place) (l : Listed) → HasOnly (IsRootedRow c root m place) l → HasOnly (IsRootedRow c root after place) l
  rows-still place l only =
      All-weaker (λ (n : Numbered). IsRootedRow c root m place n.row) (λ (n : Numbered). IsRootedRow c root after place n.row)
      (λ (n : Numbered). row-still place n.row) l.list only

  pub have-still : (containers : ContSide) → AreOfRoots c root m containers → AreOfRoots c root after containers
  have-still containers have = record {
    rows = λ device place. rows-still place (rows_of (containers.half.holds device place)) (have.rows device place);
    lists = have.lists;
  }

  pub brings-still : (message : Message) → BringsOfRoot c root m message → BringsOfRoot c root after message
  brings-still (Write_of to name write) is = tt
  brings-still (Row_of to place at row) is = row-still at row is
  brings-still (Rows_of to place at rows) is = All-weaker (IsRootedRow c root m at) (IsRootedRow c root after at) (row-still at) rows is
  brings-still (Update_of to filed place at row) is = row-still at row is
  brings-still (Creation_of to place time) is = tt
  brings-still (Ranges_of to place ranges) is = is
