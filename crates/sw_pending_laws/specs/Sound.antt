-- What holds of a ledger in which whatever was asked for is told, or has a record that says to whom not yet; and of one whose rows come from what was asked
-- for. (This project's own.)
use Rattle.std.specs.Prelude.{◌≡◌, ℕ, ◌≤◌, true, false, List, Option, Some, Contains, ◌⊎◌}
use Rattle.sw_hashpath.specs.declared.place.Place.{Place}
use Rattle.sw_object_steps.specs.Journals.{Hash}
use Rattle.sw_pending.specs.Rules.{is_done}
use Rattle.sw_pending.specs.declared.filed.Filed.{Filed}
use Rattle.sw_pending.specs.declared.key.RecordKey.{RecordKey}
use Rattle.sw_rows.specs.Rows.{find_named}
use Rattle.sw_rows.specs.declared.row.Row.{Row}
use Rattle.sw_state.specs.Bases.{base_time, is_deletion}
use Rattle.sw_state.specs.declared.base.Base.{Base}
use Rattle.sw_pending_laws.specs.Ledger.{Ground, Heard, IsHeld, IsRowIn, Ledger, Reach, Told, counts}

-- a record stands in which this device isn't marked
abbrev pub IsOpen : Option Filed → ℕ → Type 0
IsOpen o r = (f : Filed) × (o ≡ Some f) × (is_done r f.done ≡ false)

-- the device has the row of a put or deletion of this hash, or one that counts more
abbrev pub Holds : Ground → Ledger → ℕ → Hash → Base → Type 0
Holds g m r hash b = IsHeld (m.tables r (g.place hash)) (g.object hash) (base_time b) (is_deletion b)

-- of what was asked for at the device, under this hash at this time: each device of the container is still to be told by what is filed, or has its row
abbrev pub IsRecorded : Ground → Ledger → ℕ → RecordKey → Option Filed → Type 0
IsRecorded g m device key o = (b : Base) → Contains m.asked (record { device = device; hash = key.hash; base = b }) → base_time b ≡ key.time
    → (r : ℕ) → Contains (g.ring (g.place key.hash)) r → IsOpen o r ⊎ Holds g m r key.hash b

-- a row that a device sent for a record counts at least as much as each write that the record is of, now and later
pub record Covers (g : Ground) (m : Ledger) (t : Told) : Type 0 where
  pub base : Base
  pub stands : Contains m.reached (record { device = t.from; hash = t.key.hash; base = base })
  pub at_least : t.key.time ≤ base_time base
  pub over : (b : Base) → Contains m.asked (record { device = t.from; hash = t.key.hash; base = b }) → base_time b ≡ t.key.time
      → counts t.row.created_at t.row.deleted (base_time b) (is_deletion b) ≡ true
  pub named : t.row.name ≡ g.object t.key.hash

-- the device has the row that it acknowledged
abbrev pub HasTold : Ground → Ledger → Heard → Type 0
HasTold g m h =
    Contains m.sent h.told × IsHeld (m.tables h.to (g.place h.told.key.hash)) h.told.row.name h.told.row.created_at h.told.row.deleted

pub record IsSteady (g : Ground) (m : Ledger) : Type 0 where
  pub recorded : (device : ℕ) (key : RecordKey) → IsRecorded g m device key (m.records device key)
  pub own : (a : Reach) → Contains m.asked a → Contains m.reached a
  pub sent : (t : Told) → Contains m.sent t → Covers g m t
  pub heard : (h : Heard) → Contains m.heard h → HasTold g m h

-- a client asked some device for it
abbrev pub WasAsked : Ledger → Reach → Type 0
WasAsked m a = (b : Reach) × Contains m.asked b × (b.hash ≡ a.hash) × (b.base ≡ a.base)

pub record ComesFromClients (g : Ground) (m : Ledger) : Type 0 where
  pub rows : (d : ℕ) (p : Place) (name : List ℕ) (row : Row) → g.is_hidden p ≡ false → find_named (m.tables d p).list name ≡ Some row → IsRowIn g m p row
  pub origin : (a : Reach) → Contains m.reached a → WasAsked m a
  pub sent : (t : Told) → Contains m.sent t → IsRowIn g m (g.place t.key.hash) t.row
