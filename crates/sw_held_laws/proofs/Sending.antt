-- The ledger goes on with a message that is sent: an update for a record, or another one.
use Rattle.std.proofs.Common.{◌≡◌, ℕ, false, List, ◌∷◌, ◌++◌, [], Option, Some, refl, sym, subst}
use Rattle.std.proofs.lemmas.List.{append-nil}
use Rattle.sw_hashpath.specs.declared.place.Place.{Place}
use Rattle.sw_listing_laws.proofs.Accounts.{IsKnown, told}
use Rattle.sw_listing_laws.proofs.Going.{goes-by, goes-nowhere}
use Rattle.sw_listing_laws.proofs.Grounds.{ground, ground-place, named-object}
use Rattle.sw_listing_laws.proofs.Objects.{asked-same}
use Rattle.sw_listing_laws.proofs.Standing.{Stands, stands-late, standing}
use Rattle.sw_listing_laws.specs.Plain.{Cluster, IsNamed, IsNamedMessage}
use Rattle.sw_machine.specs.Machine.{Carries, Machine, RunLine, Went}
use Rattle.sw_machine.specs.Messages.{Creation_of, Message, Ranges_of, Row_of, Rows_of, Update_of, Write_of}
use Rattle.sw_object_steps.specs.BaseRows.{IsBaseFor, IsRowOf}
use Rattle.sw_object_steps.specs.Outlines.{is_before}
use Rattle.sw_pending.specs.declared.filed.Filed.{Filed}
use Rattle.sw_pending_laws.proofs.Among.{behind, in-front}
use Rattle.sw_pending_laws.specs.Ledger.{CanSend, Ledger, Reach}
use Rattle.sw_pending_laws.specs.Ledger.Change.{Sends}
use Rattle.sw_rows.specs.declared.row.Row.{Row}
use Rattle.sw_state.specs.declared.base.Base.{Base}
use Rattle.sw_held_laws.proofs.Accounts.{IsAccount, LineNext, Says, Tells}

module _ (c : Cluster) (kept : ℕ → Place → Row → Type 0) (done : List RunLine) (m : Machine) (l : Ledger) (account : IsAccount c kept done m l)
    (from : ℕ) where
  -- the row of a record is that of what stands at the device
  can-send : (filed : Filed) (row : Row) → IsNamed c filed.name → IsBaseFor filed (m.objects.half.holds from filed.name.hash).state (Some row)
      → CanSend (ground c) l (told from filed row)
  can-send filed row named base = record {
    base = base.0;
    stands = over.0;
    greatest = over.1;
    at_least = stands-late base.0 filed.time (subst (λ (o : Option Base). is_before (standing o) filed.time ≡ false) base.1 base.2);
    row_is = subst (λ (o : List ℕ). IsRowOf o base.0 row) (sym (named-object c filed.name named)) base.3;
  }
    where
      over : Stands l.reached from filed.name.hash (Some base.0)
      over = subst (λ (o : Option Base). Stands l.reached from filed.name.hash o) base.1 (account.objects.fits from filed.name.hash).stands

  -- the machine has one more message
  abbrev After : Message → Machine
  After message = record m { sent = m.sent ++ message ∷ [] }

  -- it makes nothing known
  nothing : (message : Message) (next : Ledger) → next.asked ≡ l.asked → Tells c m l (After message) next (Went from message)
  nothing message next same = record {
    news = [];
    known = sym (append-nil m.objects.known);
    asked = λ before so.
        subst (λ (xs : List Reach). IsKnown c (before ++ []) xs) (sym same) (asked-same c false before l.asked so);
  }

  update : (to : ℕ) (filed : Filed) (place at : Place) (row : Row) → IsNamed c filed.name → Carries c.nodes m from (Update_of to filed place at row)
      → LineNext c kept done m (After (Update_of to filed place at row)) l (Went from (Update_of to filed place at row))
  update to filed place at row named carries = record {
    next = next;
    goes = goes-by (ground c) l (Sends (told from filed row)) next
        (can-send filed row named (carries.1 (account.objects.tell from filed.name.hash)), refl) tt (λ a there. there) (behind (told from filed row) l.sent);
    objects = account.objects;
    rows = account.rows;
    says = (in-front (told from filed row) l.sent, ground-place c filed.name place named carries.0);
    tells = nothing (Update_of to filed place at row) next refl;
  }
    where
      next : Ledger
      next = record l { sent = told from filed row ∷ l.sent }

  other : (message : Message) → Says c l (Went from message) → LineNext c kept done m (After message) l (Went from message)
  other message says =
      record { next = l; goes = goes-nowhere (ground c) l; objects = account.objects; rows = account.rows; says = says; tells = nothing message l refl }

  pub sends : (message : Message) → Carries c.nodes m from message → IsNamedMessage c message → LineNext c kept done m (After message) l (Went from message)
  sends (Write_of to name write) carries named = other (Write_of to name write) tt
  sends (Row_of to place at row) carries named = other (Row_of to place at row) tt
  sends (Rows_of to place at rows) carries named = other (Rows_of to place at rows) tt
  sends (Update_of to filed place at row) carries named = update to filed place at row named carries
  sends (Creation_of to place time) carries named = other (Creation_of to place time) tt
  sends (Ranges_of to place ranges) carries named = other (Ranges_of to place ranges) tt
