-- The ledger of a cluster: which puts and deletions reached every device, which records of updates stand there, and which rows every container has. (This
-- project's own; that a record stands until every device of its container was told is the rule of OpenStack Swift's object updater.)
--
-- It goes on by single changes: a file that is put or unlinked, a row that is merged, a message that is sent or acknowledged. A step at a node makes a list of
-- them, and one that failed has made some first ones.
use Rattle.std.specs.Prelude.{◌≡◌, ⊤, ℕ, ◌<◌, ◌≤◌, ◌==◌, Bool, true, not, ◌&&◌, ◌||◌, nat_lt, List, [], ◌∷◌, Option, None, Some, Contains, ◌⊎◌}
use Rattle.sw_hashpath.specs.declared.place.Place.{Place}
use Rattle.sw_object_steps.specs.BaseRows.{IsRowOf}
use Rattle.sw_object_steps.specs.Journals.{Hash}
use Rattle.sw_object_steps.specs.Values.{Records}
use Rattle.sw_pending.specs.Records.{key_of, marked}
use Rattle.sw_pending.specs.Rules.{is_done}
use Rattle.sw_pending.specs.declared.filed.Filed.{Filed}
use Rattle.sw_pending.specs.declared.key.RecordKey.{RecordKey}
use Rattle.sw_rows.specs.Rows.{Listed, find_named, merged}
use Rattle.sw_rows.specs.declared.row.Row.{Row}
use Rattle.sw_state.specs.Bases.{base_time, is_deletion}
use Rattle.sw_state.specs.declared.base.Base.{Base}

-- what never changes: the container of the object of each hash, and its name there; and the devices that keep each container
pub record Ground : Type 0 where
  pub place : Hash → Place
  pub object : Hash → List ℕ
  pub ring : Place → List ℕ
  pub is_hidden : Place → Bool

-- ---- what counts more

-- whether a time, of a deletion or not, counts at least as much as another: of rows, and of puts and deletions
abbrev pub counts : ℕ → Bool → ℕ → Bool → Bool
counts time gone other was_gone = nat_lt other time || ((time == other) && (gone || not was_gone))

-- a put or deletion over another one
abbrev pub covers : Base → Base → Bool
covers b c = counts (base_time b) (is_deletion b) (base_time c) (is_deletion c)

-- the rows have one of the name that counts at least as much
abbrev pub IsHeld : Listed → List ℕ → ℕ → Bool → Type 0
IsHeld l name time gone = (row : Row) × (find_named l.list name ≡ Some row) × (counts row.created_at row.deleted time gone ≡ true)

-- ---- the ledger

-- a put or deletion that reached a device
pub record Reach : Type 0 where
  pub device : ℕ
  pub hash : Hash
  pub base : Base

-- a row that a device read for a record of its own, and sent
pub record Told : Type 0 where
  pub from : ℕ
  pub key : RecordKey
  pub row : Row

-- and a device of the container that acknowledged it
pub record Heard : Type 0 where
  pub told : Told
  pub to : ℕ

pub record Ledger : Type 0 where
  pub reached : List Reach
  pub asked : List Reach  -- those that a client asked that device for
  pub records : ℕ → Records
  pub tables : ℕ → Place → Listed
  pub sent : List Told  -- all that were ever sent
  pub heard : List Heard

-- ---- single changes

pub data Change : Type 0 where
  Asks : (a : Reach) → Change  -- a put or deletion that a client asked for is made
  Takes : (a : Reach) → Change  -- another one is
  Files : (device : ℕ) (filed : Filed) (records : ℕ → Records) → Change
  Marks : (device : ℕ) (filed : Filed) (to : ℕ) (records : ℕ → Records) → Change
  Drops : (device : ℕ) (filed : Filed) (records : ℕ → Records) → Change
  Sends : (t : Told) → Change
  Merges : (row : Row) (tables : ℕ → Place → Listed) → Change
  Hears : (h : Heard) → Change

-- of this device and key o is filed now, and all others are as they were
pub record IsSet (device : ℕ) (key : RecordKey) (o : Option Filed) (old new : ℕ → Records) : Type 0 where
  pub here : new device key ≡ o
  pub each : (d : ℕ) (k : RecordKey) → (new d k ≡ old d k) ⊎ ((d ≡ device) × (k ≡ key) × (new d k ≡ o))

-- everything that reached the device under the hash is earlier
abbrev pub IsLatest : Ledger → ℕ → Hash → ℕ → Type 0
IsLatest m device hash time = (b : Base) → Contains m.reached (record { device = device; hash = hash; base = b }) → base_time b < time

-- what a client asks for is made over what is earlier, once its record stands, of which no device was told
pub record CanAsk (m : Ledger) (a : Reach) : Type 0 where
  pub latest : IsLatest m a.device a.hash (base_time a.base)
  pub filed : (f : Filed) × (m.records a.device (record { hash = a.hash; time = base_time a.base }) ≡ Some f) × (f.done ≡ [])

-- the row is that of what stands at the device, which isn't earlier than the record
pub record CanSend (g : Ground) (m : Ledger) (t : Told) : Type 0 where
  pub base : Base
  pub stands : Contains m.reached (record { device = t.from; hash = t.key.hash; base = base })
  pub greatest : (b : Base) → Contains m.reached (record { device = t.from; hash = t.key.hash; base = b }) → covers base b ≡ true
  pub at_least : t.key.time ≤ base_time base
  pub row_is : IsRowOf (g.object t.key.hash) base t.row

-- all devices of its container are marked, or everything that reached the device is earlier than the record
abbrev pub CanDrop : Ground → Ledger → ℕ → Filed → Type 0
CanDrop g m device filed =
    ((r : ℕ) → Contains (g.ring (g.place filed.name.hash)) r → is_done r filed.done ≡ true) ⊎ IsLatest m device filed.name.hash filed.time

-- the device heard from this one that it has a row that it was told for the record
abbrev pub HasHeard : Ledger → ℕ → RecordKey → ℕ → Type 0
HasHeard m device key to = (row : Row) × Contains m.heard (record { told = record { from = device; key = key; row = row }; to = to })

-- each table stays as it is, or has the row merged
abbrev pub AreMerged : Row → (ℕ → Place → Listed) → (ℕ → Place → Listed) → Type 0
AreMerged row old new = (d : ℕ) (p : Place) → (new d p ≡ old d p) ⊎ (new d p ≡ merged (old d p) row)

abbrev pub Makes : Ground → Ledger → Change → Ledger → Type 0
Makes g m (Asks a) after = CanAsk m a × (after ≡ record m { reached = a ∷ m.reached; asked = a ∷ m.asked })
Makes g m (Takes a) after = after ≡ record m { reached = a ∷ m.reached }
Makes g m (Files device filed records) after =
    (filed.done ≡ []) × IsSet device (key_of filed) (Some filed) m.records records × (after ≡ record m { records = records })
Makes g m (Marks device filed to records) after =
    (m.records device (key_of filed) ≡ Some filed) × HasHeard m device (key_of filed) to
    × IsSet device (key_of filed) (Some (marked filed to)) m.records records × (after ≡ record m { records = records })
Makes g m (Drops device filed records) after =
    (m.records device (key_of filed) ≡ Some filed) × CanDrop g m device filed × IsSet device (key_of filed) None m.records records
    × (after ≡ record m { records = records })
Makes g m (Sends t) after = CanSend g m t × (after ≡ record m { sent = t ∷ m.sent })
Makes g m (Merges row tables) after = AreMerged row m.tables tables × (after ≡ record m { tables = tables })
Makes g m (Hears h) after =
    Contains m.sent h.told × IsHeld (m.tables h.to (g.place h.told.key.hash)) h.told.row.name h.told.row.created_at h.told.row.deleted
    × (after ≡ record m { heard = h ∷ m.heard })

-- ---- plain changes: what nobody asked for reaches no device, and only rows of what reached come to a container

-- the row is that of a put or deletion that reached some device, of an object of the container
abbrev pub IsRowIn : Ground → Ledger → Place → Row → Type 0
IsRowIn g m p row = (a : Reach) × Contains m.reached a × (g.place a.hash ≡ p) × IsRowOf (g.object a.hash) a.base row

abbrev pub IsPlain : Ground → Ledger → Change → Type 0
IsPlain g m (Takes a) = (b : Reach) × Contains m.reached b × (b.hash ≡ a.hash) × (b.base ≡ a.base)
IsPlain g m (Merges row tables) = (d : ℕ) (p : Place) → (tables d p ≡ m.tables d p) ⊎ ((g.is_hidden p ≡ true) ⊎ IsRowIn g m p row)
IsPlain g m change = ⊤
