-- A ledger of acknowledgements: of rows it has those alone that count as acknowledged, or were kept before the run. Of the containers themselves it knows
-- nothing.
use Rattle.std.proofs.Common.{◌≡◌, ℕ, List, [], ◌++◌, Some, ◌⊎◌, if◌then◌else◌}
use Rattle.std.specs.Bool.{⊤}
use Rattle.std.specs.List.{Contains}
use Rattle.sw_hashpath.specs.declared.place.Place.{Place}
use Rattle.sw_listing_laws.proofs.Accounts.{IsKnown, ObjAccounts, told}
use Rattle.sw_listing_laws.proofs.Going.{Goes}
use Rattle.sw_listing_laws.proofs.Grounds.{ground}
use Rattle.sw_listing_laws.specs.Asking.{is_asked_line}
use Rattle.sw_listing_laws.specs.Plain.{Cluster}
use Rattle.sw_machine.specs.Honest.{IsAcknowledged}
use Rattle.sw_machine.specs.Machine.{Came, KnownWrite, Machine, RunLine, Went}
use Rattle.sw_machine.specs.Messages.{Creation_of, Ranges_of, Row_of, Rows_of, Update_of, Write_of}
use Rattle.sw_pending_laws.specs.Ledger.{Ledger}
use Rattle.sw_pending_laws.specs.Sound.{ComesFromClients, IsSteady}
use Rattle.sw_rows.specs.Rows.{Listed, find_named}
use Rattle.sw_rows.specs.declared.row.Row.{Row}

-- what counts as acknowledged by a device, or it kept before the run
abbrev pub IsTaken : Cluster → (ℕ → Place → Row → Type 0) → List RunLine → ℕ → Place → Row → Type 0
IsTaken c kept done device place row = IsAcknowledged c.nodes.secrets c.replicas done device place row ⊎ kept device place row

-- each row that is found is such a one
abbrev pub AreTaken : Cluster → (ℕ → Place → Row → Type 0) → List RunLine → (ℕ → Place → Listed) → Type 0
AreTaken c kept done tables = (device : ℕ) (place : Place) (name : List ℕ) (row : Row) → find_named (tables device place).list name ≡ Some row
    → (row.name ≡ name) × IsTaken c kept done device place row

-- what the ledger has of a line that is done: an update was sent, of the container of its record
abbrev pub Says : Cluster → Ledger → RunLine → Type 0
Says c l (Went from (Update_of to filed place at row)) = Contains l.sent (told from filed row) × (place ≡ (ground c).place filed.name.hash)
Says c l (Went from message) = ⊤
Says c l (Came line) = ⊤

abbrev pub AllSay : Cluster → Ledger → List RunLine → Type 0
AllSay c l done = (line : RunLine) → Contains done line → Says c l line

-- it accounts for the machine behind these lines
pub record IsAccount (c : Cluster) (kept : ℕ → Place → Row → Type 0) (done : List RunLine) (m : Machine) (l : Ledger) : Type 0 where
  pub objects : ObjAccounts c m.objects l.records l.reached
  pub rows : AreTaken c kept done l.tables
  pub says : AllSay c l done
  pub steady : IsSteady (ground c) l
  pub clients : ComesFromClients (ground c) l

-- ---- a line

-- what it made known, and that a client asked for that where one asked for the line
pub record Tells (c : Cluster) (m : Machine) (l : Ledger) (after : Machine) (next : Ledger) (line : RunLine) : Type 0 where
  pub news : List (ℕ × KnownWrite)
  pub known : after.objects.known ≡ m.objects.known ++ news
  pub asked : (before : List (ℕ × KnownWrite)) → IsKnown c before l.asked
      → IsKnown c (before ++ (if is_asked_line line then news else [])) next.asked

-- a ledger that accounts for the machine after a line behind these
pub record LineNext (c : Cluster) (kept : ℕ → Place → Row → Type 0) (done : List RunLine) (m : Machine) (after : Machine) (l : Ledger) (line : RunLine)
    : Type 0 where
  pub next : Ledger
  pub goes : Goes (ground c) l next
  pub objects : ObjAccounts c after.objects next.records next.reached
  pub rows : AreTaken c kept done next.tables
  pub says : Says c next line
  pub tells : Tells c m l after next line

-- ---- what a ledger has a later one has

module _ (c : Cluster) (l after : Ledger) (goes : Goes (ground c) l after) where
  says-still : (line : RunLine) → Says c l line → Says c after line
  says-still (Went from (Write_of to name write)) is = tt
  says-still (Went from (Row_of to place at row)) is = tt
  says-still (Went from (Rows_of to place at rows)) is = tt
  says-still (Went from (Update_of to filed place at row)) is = (goes.sent (told from filed row) is.0, is.1)
  says-still (Went from (Creation_of to place time)) is = tt
  says-still (Went from (Ranges_of to place ranges)) is = tt
  says-still (Came line) is = tt

  pub all-say-still : (done : List RunLine) → AllSay c l done → AllSay c after done
  all-say-still done say line there = says-still line (say line there)
