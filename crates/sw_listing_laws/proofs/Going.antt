-- From one ledger to a later one, by changes of which each is plain.
use Rattle.std.proofs.Common.{ℕ, Bool, List, inl, inr}
use Rattle.std.specs.List.{Contains}
use Rattle.std.proofs.lemmas.List.Elements.{All-weaker}
use Rattle.sw_container_steps.specs.Entries.{rows_of}
use Rattle.sw_hashpath.specs.declared.place.Place.{Place}
use Rattle.sw_machine.specs.Machine.{Came, ContSide, Machine, RunLine, Went}
use Rattle.sw_machine.specs.Messages.{Creation_of, Message, Ranges_of, Row_of, Rows_of, Update_of, Write_of}
use Rattle.sw_pending_laws.proofs.Plain.{plain-step}
use Rattle.sw_pending_laws.proofs.Rows.{rows-rise}
use Rattle.sw_pending_laws.proofs.Steady.{steady-step}
use Rattle.sw_pending_laws.specs.Ledger.{Change, Ground, IsHeld, IsPlain, Ledger, Makes, Reach, Told}
use Rattle.sw_pending_laws.specs.Sound.{ComesFromClients, IsSteady}
use Rattle.sw_rows.specs.declared.numbered.Numbered.{Numbered}
use Rattle.sw_rows.specs.declared.row.Row.{Row}
use Rattle.sw_listing_laws.proofs.Accounts.{Accounts, AreAccounted, AreRight, IsAccounted, IsRight, Says, Tells}
use Rattle.sw_listing_laws.proofs.Grounds.{ground}
use Rattle.sw_listing_laws.specs.Plain.{Cluster}

-- what was true of the ledger is, and what it had it has
pub record Goes (g : Ground) (l after : Ledger) : Type 0 where
  pub steady : IsSteady g l → IsSteady g after
  pub clients : ComesFromClients g l → ComesFromClients g after
  pub reached : (a : Reach) → Contains l.reached a → Contains after.reached a
  pub sent : (t : Told) → Contains l.sent t → Contains after.sent t
  pub rise : (device : ℕ) (place : Place) (name : List ℕ) (time : ℕ) (gone : Bool) → IsHeld (l.tables device place) name time gone
      → IsHeld (after.tables device place) name time gone

module _ (g : Ground) where
  pub goes-nowhere : (l : Ledger) → Goes g l l
  goes-nowhere l = record {
    steady = λ s. s;
    clients = λ s. s;
    reached = λ a there. there;
    sent = λ t there. there;
    rise = λ d p name time gone held. held;
  }

  pub goes-on : (l mid after : Ledger) → Goes g l mid → Goes g mid after → Goes g l after
  goes-on l mid after first second = record {
    steady = λ s. second.steady (first.steady s);
    clients = λ s. second.clients (first.clients s);
    reached = λ a there. second.reached a (first.reached a there);
    sent = λ t there. second.sent t (first.sent t there);
    rise = λ d p name time gone held. second.rise d p name time gone (first.rise d p name time gone held);
  }

  -- by one change
  pub goes-by : (l : Ledger) (change : Change) (after : Ledger) → Makes g l change after → IsPlain g l change
      → ((a : Reach) → Contains l.reached a → Contains after.reached a) → ((t : Told) → Contains l.sent t → Contains after.sent t) → Goes g l after
  goes-by l change after makes plain reached sent = record {
    steady = steady-step g l change after makes;
    clients = plain-step g l change after makes plain;
    reached = reached;
    sent = sent;
    rise = rows-rise g l change after makes;
  }

-- ---- what was accounted still is

module _ (c : Cluster) (l after : Ledger) (goes : Goes (ground c) l after) where
  pub right-still : (place : Place) (row : Row) → IsRight c l place row → IsRight c after place row
  right-still place row (inl hidden) = inl hidden
  right-still place row (inr is) = inr (is.0, goes.reached is.0 is.1, is.2, is.3)

  pub all-right-still : (m : ContSide) → AreRight c l m → AreRight c after m
  all-right-still m are d p =
      All-weaker (λ (n : Numbered). IsRight c l p n.row) (λ (n : Numbered). IsRight c after p n.row) (λ (n : Numbered). right-still p n.row)
      (rows_of (m.half.holds d p)).list (are d p)

  pub accounted-still : (message : Message) → IsAccounted c l message → IsAccounted c after message
  accounted-still (Write_of to name write) is = λ b base. ((is b base).0, goes.reached (is b base).0 (is b base).1, (is b base).2, (is b base).3)
  accounted-still (Row_of to place at row) is = right-still at row is
  accounted-still (Rows_of to place at rows) is = λ k d within. right-still at _ (is k d within)
  accounted-still (Update_of to filed place at row) is = (is.0, goes.sent _ is.1, is.2)
  accounted-still (Creation_of to place time) is = tt
  accounted-still (Ranges_of to place ranges) is = tt

  pub all-still : (sent : List Message) → AreAccounted c l sent → AreAccounted c after sent
  all-still sent are message there = accounted-still message (are message there)

  says-still : (line : RunLine) → Says c l line → Says c after line
  says-still (Went from (Write_of to name write)) is = tt
  says-still (Went from (Row_of to place at row)) is = tt
  says-still (Went from (Rows_of to place at rows)) is = tt
  says-still (Went from (Update_of to filed place at row)) is = (goes.sent _ is.0, is.1)
  says-still (Went from (Creation_of to place time)) is = tt
  says-still (Went from (Ranges_of to place ranges)) is = tt
  says-still (Came line) is = λ place row answer entries event heard.
      goes.rise line.device place row.name row.created_at row.deleted (is place row answer entries event heard)

  pub tells-still : (done : List RunLine) → Tells c l done → Tells c after done
  tells-still done tells line there = says-still line (tells line there)

-- ---- one line

-- a ledger that accounts for the machine after a line
pub record LineNext (c : Cluster) (after : Machine) (l : Ledger) (line : RunLine) : Type 0 where
  pub next : Ledger
  pub goes : Goes (ground c) l next
  pub accounts : Accounts c after next
  pub says : Says c next line
