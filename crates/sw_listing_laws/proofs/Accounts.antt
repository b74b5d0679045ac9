-- The ledger that accounts for a machine.
use Rattle.std.proofs.Common.{◌≡◌, ℕ, true, List, Some, ◌⊎◌}
use Rattle.std.specs.Bool.{⊤}
use Rattle.std.specs.List.{All, Contains}
use Rattle.sw_container_steps.specs.Entries.{rows_of}
use Rattle.sw_container_steps.specs.declared.cont_answer.ContAnswer.{ContAnswer}
use Rattle.sw_container_steps.specs.declared.cont_change.ContChange.TheVariants.{MergeRow}
use Rattle.sw_container_steps.specs.declared.cont_entry.ContEntry.{ContEntry}
use Rattle.sw_hashpath.specs.declared.place.Place.{Place}
use Rattle.sw_machine.specs.Machine.{Came, ContSide, KnownWrite, Machine, ObjSide, RunLine, Went}
use Rattle.sw_machine.specs.Messages.{Creation_of, Message, Ranges_of, Row_of, Rows_of, Update_of, Write_of}
use Rattle.sw_machine.specs.Sides.{TellsAt}
use Rattle.sw_object_steps.specs.Journals.{Hash}
use Rattle.sw_object_steps.specs.Values.{ObjValue, Records}
use Rattle.sw_peer.specs.Sights.{cont_lock}
use Rattle.sw_peer.specs.declared.cont_event.ContEvent.TheVariants as cont_events
use Rattle.sw_peer.specs.declared.line.Event.TheVariants.{AtContainer}
use Rattle.sw_pending.specs.Records.{key_of}
use Rattle.sw_pending.specs.declared.filed.Filed.{Filed}
use Rattle.sw_pending.specs.declared.key.RecordKey.{RecordKey}
use Rattle.sw_pending_laws.specs.Ledger.{IsHeld, IsRowIn, Ledger, Reach, Told}
use Rattle.sw_pending_laws.specs.Sound.{ComesFromClients, IsSteady}
use Rattle.sw_rows.specs.Rows.{IsListed, Listed}
use Rattle.sw_rows.specs.declared.row.Row.{Row}
use Rattle.sw_state.specs.Bases.{base_at}
use Rattle.sw_state.specs.declared.base.Base.{Base}
use Rattle.sw_listing_laws.proofs.Bringing.{HasOnly}
use Rattle.sw_listing_laws.proofs.Grounds.{ground}
use Rattle.sw_listing_laws.proofs.Redirecting.{IsHeard}
use Rattle.sw_listing_laws.proofs.Splitting.{IsKept, IsSplitWhereEmptied}
use Rattle.sw_listing_laws.proofs.Standing.{Stands, reach}
use Rattle.sw_listing_laws.specs.Plain.{Cluster, IsNamed}

-- ---- objects

-- at a device and under a hash the ledger has what is held there
pub record Fits (c : Cluster) (records : ℕ → Records) (reached : List Reach) (device : ℕ) (hash : Hash) (v : ObjValue) : Type 0 where
  pub filed : (key : RecordKey) → key.hash ≡ hash → records device key ≡ v.records key
  pub named : (key : RecordKey) (f : Filed) → key.hash ≡ hash → v.records key ≡ Some f → f.name ≡ c.names hash
  pub stands : Stands reached device hash v.state.base

-- what reached is what became known
pub record IsKnown (c : Cluster) (known : List (ℕ × KnownWrite)) (reached : List Reach) : Type 0 where
  pub named : (d : ℕ) (n : KnownWrite) → Contains known (d, n) → IsNamed c n.name
  pub reaches : (d : ℕ) (n : KnownWrite) (b : Base) → Contains known (d, n) → base_at n.write.time n.write.kind ≡ Some b
      → Contains reached (reach d n.name.hash b)
  pub comes : (a : Reach) → Contains reached a
      → (n : KnownWrite) × Contains known (a.device, n) × (n.name.hash ≡ a.hash) × (base_at n.write.time n.write.kind ≡ Some a.base)

pub record ObjAccounts (c : Cluster) (m : ObjSide) (records : ℕ → Records) (reached : List Reach) : Type 0 where
  pub tell : (device : ℕ) (hash : Hash) → TellsAt c.nodes.lock m device hash
  pub fits : (device : ℕ) (hash : Hash) → Fits c records reached device hash (m.half.holds device hash)
  pub known : IsKnown c m.known reached

-- ---- containers

-- The ledger has all rows that came, also those that were left to shards. A device has the same where it keeps all; rows are taken away only where it has shard
-- ranges
pub record ContAccounts (c : Cluster) (m : ContSide) (tables : ℕ → Place → Listed) : Type 0 where
  pub tell : (device : ℕ) (place : Place) → TellsAt (cont_lock c.nodes) m device place
  pub rows : (device : ℕ) (place : Place) → IsKept (m.half.holds device place) → tables device place ≡ rows_of (m.half.holds device place)
  pub listed : (device : ℕ) (place : Place) → IsListed (tables device place)
  pub split : (device : ℕ) (place : Place) → IsSplitWhereEmptied (m.half.holds device place)

-- the row may come to the container
abbrev pub IsRight : Cluster → Ledger → Place → Row → Type 0
IsRight c l place row = (c.is_hidden place ≡ true) ⊎ IsRowIn (ground c) l place row

-- each device has only such rows, also where others were taken away before
abbrev pub AreRight : Cluster → Ledger → ContSide → Type 0
AreRight c l m = (device : ℕ) (place : Place) → HasOnly (IsRight c l place) (rows_of (m.half.holds device place))

-- ---- messages

-- some device has reached it
abbrev pub HasReached : Ledger → Hash → Base → Type 0
HasReached l hash b = (a : Reach) × Contains l.reached a × (a.hash ≡ hash) × (a.base ≡ b)

abbrev pub told : ℕ → Filed → Row → Told
told from filed row = record { from = from; key = key_of filed; row = row }

abbrev pub IsAccounted : Cluster → Ledger → Message → Type 0
IsAccounted c l (Write_of to name write) = (b : Base) → base_at write.time write.kind ≡ Some b → HasReached l name.hash b
IsAccounted c l (Row_of to place at row) = IsRight c l at row
IsAccounted c l (Rows_of to place at rows) = All (IsRight c l at) rows
IsAccounted c l (Update_of to filed place at row) =
    (from : ℕ) × Contains l.sent (told from filed row) × ((at ≡ (ground c).place filed.name.hash) ⊎ (c.is_hidden at ≡ true))
IsAccounted c l (Creation_of to place time) = ⊤
IsAccounted c l (Ranges_of to place ranges) = ⊤

abbrev pub AreAccounted : Cluster → Ledger → List Message → Type 0
AreAccounted c l sent = (message : Message) → Contains sent message → IsAccounted c l message

-- ---- the machine

pub record Accounts (c : Cluster) (m : Machine) (l : Ledger) : Type 0 where
  pub objects : ObjAccounts c m.objects l.records l.reached
  pub containers : ContAccounts c m.containers l.tables
  pub right : AreRight c l m.containers
  pub sent : AreAccounted c l m.sent

-- ---- lines

-- what the ledger has of a line that is done: an update was sent, and a row that a device took, or left to a shard, is there
abbrev pub Says : Cluster → Ledger → RunLine → Type 0
Says c l (Went from (Update_of to filed place at row)) = Contains l.sent (told from filed row) × (place ≡ (ground c).place filed.name.hash)
Says c l (Went from message) = ⊤
Says c l (Came line) = (place : Place) (row : Row) (answer : ContAnswer) (entries : List ContEntry)
    → line.event ≡ AtContainer (cont_events.Changed place (MergeRow row) answer) entries → IsHeard answer
    → IsHeld (l.tables line.device place) row.name row.created_at row.deleted

abbrev pub Tells : Cluster → Ledger → List RunLine → Type 0
Tells c l done = (line : RunLine) → Contains done line → Says c l line

-- ---- all of it

pub record IsSound (c : Cluster) (done : List RunLine) (m : Machine) (l : Ledger) : Type 0 where
  pub accounts : Accounts c m l
  pub tells : Tells c l done
  pub steady : IsSteady (ground c) l
  pub clients : ComesFromClients (ground c) l
