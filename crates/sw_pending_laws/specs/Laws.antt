-- What is promised of ledgers. (This project's own.)
use Rattle.std.specs.Prelude.{◌≡◌, ℕ, Bool, true, false, List, [], None, Some, Contains}
use Rattle.sw_hashpath.specs.declared.place.Place.{Place}
use Rattle.sw_object_steps.specs.BaseRows.{IsRowOf}
use Rattle.sw_pending.specs.Rules.{is_done}
use Rattle.sw_pending.specs.declared.filed.Filed.{Filed}
use Rattle.sw_pending.specs.declared.key.RecordKey.{RecordKey}
use Rattle.sw_rows.specs.Rows.{find_named, no_rows}
use Rattle.sw_rows.specs.declared.row.Row.{Row}
use Rattle.sw_state.specs.Bases.{base_time, is_deletion}
use Rattle.sw_pending_laws.specs.Ledger.{Change, Ground, IsHeld, IsPlain, Ledger, Makes, Reach, covers}
use Rattle.sw_pending_laws.specs.Sound.{ComesFromClients, IsSteady}

-- ---- what every change keeps

-- nothing has happened yet
abbrev pub begun : Ledger
begun = record { reached = []; asked = []; records = λ device key. None; tables = λ device place. no_rows; sent = []; heard = [] }

-- where nothing has happened, all is steady, and comes from clients
abbrev pub BegunIsSound : Type 0
BegunIsSound = (g : Ground) → IsSteady g begun × ComesFromClients g begun

abbrev pub ChangesKeepSteady : Type 0
ChangesKeepSteady = (g : Ground) (m : Ledger) (change : Change) (after : Ledger) → Makes g m change after → IsSteady g m → IsSteady g after

abbrev pub PlainChangesComeFromClients : Type 0
PlainChangesComeFromClients = (g : Ground) (m : Ledger) (change : Change) (after : Ledger) → Makes g m change after → IsPlain g m change
    → ComesFromClients g m → ComesFromClients g after

-- what a device has of a name it keeps, or has what counts more
abbrev pub RowsRise : Type 0
RowsRise = (g : Ground) (m : Ledger) (change : Change) (after : Ledger) → Makes g m change after → (device : ℕ) (place : Place) (name : List ℕ) (time : ℕ)
    (gone : Bool) → IsHeld (m.tables device place) name time gone → IsHeld (after.tables device place) name time gone

-- ---- what is shown where no record is pending

-- two puts of one hash and time have one content, and no two hashes of one container have one object
pub record DoAgree (g : Ground) (m : Ledger) : Type 0 where
  pub contents : (a b : Reach) → Contains m.reached a → Contains m.reached b → a.hash ≡ b.hash → base_time a.base ≡ base_time b.base
      → is_deletion a.base ≡ is_deletion b.base → a.base ≡ b.base
  pub names : (a b : Reach) → Contains m.reached a → Contains m.reached b → g.place a.hash ≡ g.place b.hash → g.object a.hash ≡ g.object b.hash
      → a.hash ≡ b.hash

-- no record of the container is pending: in each one that stands, all its devices are marked
abbrev pub IsSettled : Ground → Ledger → Place → Type 0
IsSettled g m place = (device : ℕ) (key : RecordKey) (f : Filed) → m.records device key ≡ Some f → g.place key.hash ≡ place → (r : ℕ)
    → Contains (g.ring place) r → is_done r f.done ≡ true

-- a put of this name of the container that reached some device, and that nothing which reached any device counts more than
pub record IsLive (g : Ground) (m : Ledger) (place : Place) (name : List ℕ) (a : Reach) : Type 0 where
  pub reached : Contains m.reached a
  pub place_is : g.place a.hash ≡ place
  pub object_is : g.object a.hash ≡ name
  pub is_put : is_deletion a.base ≡ false
  pub greatest : (b : Reach) → Contains m.reached b → b.hash ≡ a.hash → covers a.base b.base ≡ true

-- the device shows a name exactly where it is live, and by the row of the put that makes it so
pub record ShowsExactly (g : Ground) (m : Ledger) (device : ℕ) (place : Place) (name : List ℕ) : Type 0 where
  pub shown : (row : Row) → find_named (m.tables device place).list name ≡ Some row → row.deleted ≡ false
      → (a : Reach) × IsLive g m place name a × IsRowOf name a.base row
  pub live : (a : Reach) → IsLive g m place name a
      → (row : Row) × (find_named (m.tables device place).list name ≡ Some row) × (row.deleted ≡ false) × IsRowOf name a.base row

-- each device of a container of which no record is pending shows exactly what is live
abbrev pub SettledShowsExactly : Type 0
SettledShowsExactly = (g : Ground) (m : Ledger) → IsSteady g m → ComesFromClients g m → DoAgree g m → (place : Place) → g.is_hidden place ≡ false
    → IsSettled g m place → (device : ℕ) → Contains (g.ring place) device → (name : List ℕ) → ShowsExactly g m device place name
