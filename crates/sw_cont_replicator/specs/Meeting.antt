-- What replicas have of each other's rows, and what their sync points tell of it. (This project's own.)
use Rattle.std.specs.Prelude.{◌≡◌, ◌≢◌, ⊤, ℕ, ◌≤◌, true, List, All, Option, None, Some, Ok}
use Rattle.std.specs.Option.{option_map_or}
use Rattle.sw_container_steps.specs.Entries.{rows_of}
use Rattle.sw_cont_replicator.specs.Pushing.{IsPush}
use Rattle.sw_hashpath.specs.declared.place.Place.{Place}
use Rattle.sw_keeper.specs.declared.tables.Tables.{Tables}
use Rattle.sw_pass.specs.declared.outcome.Outcome.{Outcome}
use Rattle.sw_peer.specs.Sights.{Sight, cont_lock}
use Rattle.sw_ring.specs.declared.ring.Ring.{Ring}
use Rattle.sw_rows.specs.Laws.{greater}
use Rattle.sw_rows.specs.Rows.{IsListed, find_named, is_at_least}
use Rattle.sw_rows.specs.declared.row.Row.{Row}
use Rattle.sw_sync.specs.Points.{point_at}

-- ---- what a replica has

-- what a device holds of a container; where the door is alone
abbrev pub replica : Sight → ℕ → Place → Option Tables
replica s device place = s.containers.holds device place

-- the row of a name
abbrev pub row_in : Option Tables → List ℕ → Option Row
row_in t name = find_named (rows_of t).list name

-- it has the row, or one of its name that counts at least as much
abbrev pub HasRow : Option Tables → Row → Type 0
HasRow t row = (there : Row) × (row_in t row.name ≡ Some there) × (is_at_least there row ≡ true)

-- of two rows of a name the one that counts more; of two that count the same, the first
abbrev pub greatest : Option Row → Option Row → Option Row
greatest o None = o
greatest o (Some row) = Some (greater o row)

-- two rows of a name that count the same are one
abbrev pub Agree : Option Row → Option Row → Type 0
Agree o p = (a b : Row) → o ≡ Some a → p ≡ Some b → is_at_least a b ≡ true → is_at_least b a ≡ true → a ≡ b

-- ---- what its sync points tell

-- the sync point that it keeps for a device
abbrev pub point_in : Option Tables → ℕ → Option ℕ
point_in None device = None
point_in (Some t) device = point_at t.syncs 0 device

-- the number above which its rows are owed to a device: 0 where it keeps no point
abbrev pub owed_above : Option Tables → ℕ → ℕ
owed_above t device = option_map_or (λ rowid. rowid) (point_in t device) 0

-- `ours` has its rows in order; and where it keeps a sync point for a device, that number was given out, and the device, which has `theirs`, has each row up
-- to it
pub record TellsTruly (device : ℕ) (ours theirs : Option Tables) : Type 0 where
  pub listed : IsListed (rows_of ours)
  pub given : (point : ℕ) → point_in ours device ≡ Some point → point ≤ (rows_of ours).top
  pub has : (point : ℕ) → point_in ours device ≡ Some point → All (λ n. n.rowid ≤ point → HasRow theirs n.row) (rows_of ours).list

-- all sync points that are kept for a container, at any device for any, tell truly
abbrev pub PointsTell : Place → Sight → Type 0
PointsTell place s = (d e : ℕ) → TellsTruly e (replica s d place) (replica s e place)

-- ---- pushes

-- a device tells what it has of the container
abbrev pub IsTold : ℕ → Place → Sight → Type 0
IsTold device place s = (s.containers.seen (cont_lock s.nodes device place)).told ≡ true

-- no range of the container is closed there, so that no name is left to a shard
abbrev pub LeavesNoName : Option Tables → Type 0
LeavesNoName None = ⊤
LeavesNoName (Some t) = t.cursor ≡ 0

-- a push goes from one device to another that has no range closed, at nodes that nobody else changes while it does
pub record GoesAlone (from to : ℕ) (place : Place) (s t : Sight) : Type 0 where
  pub apart : from ≢ to
  pub from_tells : IsTold from place s
  pub to_tells : IsTold to place s
  pub keeps_all : LeavesNoName (replica s to place)
  pub alone : t.alone ≡ true

-- and it is told as done
pub record IsDone (from to : ℕ) (place : Place) (s t : Sight) : Type 0 where
  pub ring : Ring
  pub goes : GoesAlone from to place s t
  pub outcome : Outcome
  pub pushes : IsPush from to place ring s (Ok outcome) t
  pub done : outcome.done ≡ true
