-- Runs in which nodes and clients keep to their parts: nodes are honest, and whoever asks a device to take over a write, or a row, makes none up. (This
-- project's own.)
use Rattle.std.specs.Prelude.{◌≡◌, ⊤, ℕ, Bool, true, List, [], ◌∷◌, ◌++◌, Contains, Some, ◌⊎◌}
use Rattle.std.specs.List.{All}
use Rattle.sw_container_steps.specs.declared.cont_change.ContChange.{ContChange}
use Rattle.sw_container_steps.specs.declared.cont_change.ContChange.TheVariants.{MergeRow, MergeRows}
use Rattle.sw_hashpath.specs.Paths.{hash_of}
use Rattle.sw_hashpath.specs.Places.{IsPlaceOf}
use Rattle.sw_hashpath.specs.declared.name.Name.{Name}
use Rattle.sw_hashpath.specs.declared.place.Place.{Place}
use Rattle.sw_machine.specs.Honest.{IsHonest}
use Rattle.sw_machine.specs.Machine.{Came, KnownWrite, Machine, RunLine, Steps, Went}
use Rattle.sw_machine.specs.Messages.{Message, Row_of, Rows_of, Update_of}
use Rattle.sw_object_steps.specs.BaseRows.{IsRowOf}
use Rattle.sw_object_steps.specs.Journals.{Hash}
use Rattle.sw_object_steps.specs.declared.change.Change.{Change}
use Rattle.sw_object_steps.specs.declared.change.Change.TheVariants.{DropRecord, MarkRecord, Receive}
use Rattle.sw_peer.specs.Sights.{Nodes}
use Rattle.sw_peer.specs.declared.cont_event.ContEvent.TheVariants as cont_events
use Rattle.sw_peer.specs.declared.line.Event.{Event}
use Rattle.sw_peer.specs.declared.line.Event.TheVariants.{AtContainer, Changed}
use Rattle.sw_peer.specs.declared.link.Link.TheVariants.{Local}
use Rattle.sw_rows.specs.declared.row.Row.{Row}
use Rattle.sw_state.specs.Bases.{base_at}
use Rattle.sw_state.specs.declared.base.Base.{Base}

-- what cluster it is: its nodes, which devices keep each container, which containers are hidden, and whose name each hash is
pub record Cluster : Type 0 where
  pub nodes : Nodes
  pub replicas : Place → List ℕ
  pub is_hidden : Place → Bool
  pub names : Hash → Name

-- ---- what is asked of a device itself

-- the put or deletion of this name reached some device
pub record HadReached (m : Machine) (name : Name) (base : Base) : Type 0 where
  pub device : ℕ
  pub by : KnownWrite
  pub known : Contains m.objects.known (device, by)
  pub name_is : by.name ≡ name
  pub base_is : base_at by.write.time by.write.kind ≡ Some base

-- the row is that of a put or deletion that reached some device, of an object of the container
pub record IsOfWrite (c : Cluster) (m : Machine) (place : Place) (row : Row) : Type 0 where
  pub name : Name
  pub base : Base
  pub reached : HadReached m name base
  pub place_is : IsPlaceOf c.nodes.secrets name place
  pub row_is : IsRowOf name.object base row

abbrev pub IsPlainRow : Cluster → Machine → Place → Row → Type 0
IsPlainRow c m place row = (c.is_hidden place ≡ true) ⊎ IsOfWrite c m place row

abbrev pub IsPlainChange : Cluster → Machine → Place → ContChange → Type 0
IsPlainChange c m place (MergeRow row) = IsPlainRow c m place row
IsPlainChange c m place (MergeRows rows) = All (IsPlainRow c m place) rows
IsPlainChange c m place change = ⊤

abbrev pub IsPlainEvent : Cluster → Machine → Event → Type 0
IsPlainEvent c m (Changed name (Receive write) answer) = (base : Base) → base_at write.time write.kind ≡ Some base → HadReached m name base
IsPlainEvent c m (AtContainer (cont_events.Changed place change answer) entries) = IsPlainChange c m place change
IsPlainEvent c m event = ⊤

-- rows go to their own container, or to one that is hidden, as shards are
abbrev pub IsPlainMessage : Cluster → Message → Type 0
IsPlainMessage c (Row_of to place at row) = (at ≡ place) ⊎ (c.is_hidden at ≡ true)
IsPlainMessage c (Rows_of to place at rows) = (at ≡ place) ⊎ (c.is_hidden at ≡ true)
IsPlainMessage c (Update_of to filed place at row) = (at ≡ place) ⊎ (c.is_hidden at ≡ true)
IsPlainMessage c message = ⊤

-- what comes in a message is another device's
abbrev pub IsPlain : Cluster → Machine → RunLine → Type 0
IsPlain c m (Came line) = line.link ≡ Local → IsPlainEvent c m line.event
IsPlain c m (Went from message) = IsPlainMessage c message

-- ---- names

-- the name is that of its hash: no other one in the run has the same hash
pub record IsNamed (c : Cluster) (name : Name) : Type 0 where
  pub one : c.names name.hash ≡ name
  pub hashed : name.hash ≡ hash_of c.nodes.secrets name.account (Some name.container) (Some name.object)

abbrev pub IsNamedStep : Cluster → Change → Type 0
IsNamedStep c (MarkRecord filed to) = IsNamed c filed.name
IsNamedStep c (DropRecord filed all) = IsNamed c filed.name
IsNamedStep c change = ⊤

abbrev pub IsNamedEvent : Cluster → Event → Type 0
IsNamedEvent c (Changed name change answer) = IsNamed c name × IsNamedStep c change
IsNamedEvent c event = ⊤

abbrev pub IsNamedMessage : Cluster → Message → Type 0
IsNamedMessage c (Update_of to filed place at row) = IsNamed c filed.name
IsNamedMessage c message = ⊤

abbrev pub IsNamedLine : Cluster → RunLine → Type 0
IsNamedLine c (Came line) = IsNamedEvent c line.event
IsNamedLine c (Went from message) = IsNamedMessage c message

-- ---- the run

-- the steps of these lines behind those that are done, one after the other, all honest, plain and named
abbrev pub RunsSoundly : Cluster → List RunLine → Machine → List RunLine → Machine → Type 0
RunsSoundly c done m [] after = after ≡ m
RunsSoundly c done m (line ∷ lines) after =
    (mid : Machine) × Steps c.nodes m line mid × IsHonest c.nodes.secrets c.replicas done line × IsPlain c m line × IsNamedLine c line
    × RunsSoundly c (done ++ line ∷ []) mid lines after
