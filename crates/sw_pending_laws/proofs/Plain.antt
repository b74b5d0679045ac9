-- What plain changes keep beside it: rows come from what reached, and that was asked for.
use Rattle.std.proofs.Common.{◌≡◌, ℕ, true, false, List, ◌∷◌, Some, ◌⊎◌, inl, inr, refl, sym, ◌∙◌, ap, subst}
use Rattle.std.specs.List.{Contains}
use Rattle.std.proofs.lemmas.Bool.{both_ways}
use Rattle.sw_hashpath.specs.declared.place.Place.{Place}
use Rattle.sw_rows.specs.Rows.{Listed, find_named, merged}
use Rattle.sw_rows.specs.declared.row.Row.{Row}
use Rattle.sw_pending_laws.proofs.Among.{behind, front-or-behind, in-front}
use Rattle.sw_pending_laws.proofs.Rows.{merged-one}
use Rattle.sw_pending_laws.specs.Laws.{PlainChangesComeFromClients}
use Rattle.sw_pending_laws.specs.Ledger.{AreMerged, CanSend, Ground, IsPlain, IsRowIn, Ledger, Reach, Told}
use Rattle.sw_pending_laws.specs.Ledger.Change.{Asks, Takes, Files, Marks, Drops, Sends, Merges, Hears}
use Rattle.sw_pending_laws.specs.Sound.{ComesFromClients, WasAsked}

module _ (g : Ground) (m : Ledger) (s : ComesFromClients g m) where
  -- what is the row of something stays so where more has reached
  further : (a : Reach) (p : Place) (row : Row) (asked : List Reach) → IsRowIn g m p row
      → IsRowIn g (record m { reached = a ∷ m.reached; asked = asked }) p row
  further a p row asked is = (is.0, behind a m.reached is.0 is.1, is.2, is.3)

  asks : (a : Reach) → ComesFromClients g (record m { reached = a ∷ m.reached; asked = a ∷ m.asked })
  asks a = record {
    rows = λ d p name row shown found. further a p row (a ∷ m.asked) (s.rows d p name row shown found);
    origin = λ b reached. origin b (front-or-behind a m.reached b reached);
    sent = λ t told. further a (g.place t.key.hash) t.row (a ∷ m.asked) (s.sent t told);
  }
    where
      origin : (b : Reach) → (b ≡ a) ⊎ Contains m.reached b → WasAsked (record m { reached = a ∷ m.reached; asked = a ∷ m.asked }) b
      origin b (inl is) = (a, in-front a m.asked, ap (λ (x : Reach). x.hash) (sym is), ap (λ (x : Reach). x.base) (sym is))
      origin b (inr old) = let o : WasAsked m b = s.origin b old in (o.0, behind a m.asked o.0 o.1, o.2, o.3)

  takes : (a : Reach) → IsPlain g m (Takes a) → ComesFromClients g (record m { reached = a ∷ m.reached })
  takes a from = record {
    rows = λ d p name row shown found. further a p row m.asked (s.rows d p name row shown found);
    origin = λ b reached. origin b (front-or-behind a m.reached b reached);
    sent = λ t told. further a (g.place t.key.hash) t.row m.asked (s.sent t told);
  }
    where
      of : WasAsked m a
      of = let o : WasAsked m from.0 = s.origin from.0 from.1 in (o.0, o.1, o.2 ∙ from.2, o.3 ∙ from.3)

      origin : (b : Reach) → (b ≡ a) ⊎ Contains m.reached b → WasAsked m b
      origin b (inl is) = subst (λ (x : Reach). WasAsked m x) (sym is) of
      origin b (inr old) = s.origin b old

  merges : (row : Row) (tables : ℕ → Place → Listed) → AreMerged row m.tables tables → IsPlain g m (Merges row tables)
      → ComesFromClients g (record m { tables = tables })
  merges row tables each plain = record {
    rows = λ d p name u shown found. by d p name u shown found (each d p) (plain d p);
    origin = s.origin;
    sent = s.sent;
  }
    where
      some : (u : Row) → Some row ≡ Some u → row ≡ u
      some u is = cc

      old : (d : ℕ) (p : Place) (name : List ℕ) (u : Row) → g.is_hidden p ≡ false → find_named (tables d p).list name ≡ Some u
          → find_named (tables d p).list name ≡ find_named (m.tables d p).list name → IsRowIn g m p u
      old d p name u shown found same = s.rows d p name u shown (sym same ∙ found)

      one : (d : ℕ) (p : Place) (name : List ℕ) (u : Row) → g.is_hidden p ≡ false → find_named (tables d p).list name ≡ Some u
          → tables d p ≡ merged (m.tables d p) row
          → (find_named (merged (m.tables d p) row).list name ≡ find_named (m.tables d p).list name)
          ⊎ ((row.name ≡ name) × (find_named (merged (m.tables d p) row).list name ≡ Some row))
          → IsRowIn g m p row → IsRowIn g m p u
      one d p name u shown found is (inl same) of = old d p name u shown found (ap (λ (l : Listed). find_named l.list name) is ∙ same)
      one d p name u shown found is (inr new) of =
          subst (λ (x : Row). IsRowIn g m p x) (some u (sym new.1 ∙ (ap (λ (l : Listed). find_named l.list name) (sym is) ∙ found))) of

      by : (d : ℕ) (p : Place) (name : List ℕ) (u : Row) → g.is_hidden p ≡ false → find_named (tables d p).list name ≡ Some u
          → (tables d p ≡ m.tables d p) ⊎ (tables d p ≡ merged (m.tables d p) row)
          → (tables d p ≡ m.tables d p) ⊎ ((g.is_hidden p ≡ true) ⊎ IsRowIn g m p row) → IsRowIn g m p u
      by d p name u shown found (inl same) way = old d p name u shown found (ap (λ (l : Listed). find_named l.list name) same)
      by d p name u shown found (inr is) (inl same) = old d p name u shown found (ap (λ (l : Listed). find_named l.list name) same)
      by d p name u shown found (inr is) (inr (inl hidden)) = absurd (both_ways (g.is_hidden p) shown hidden)
      by d p name u shown found (inr is) (inr (inr of)) = one d p name u shown found is (merged-one (m.tables d p) row name) of

  -- records and acknowledgements come from nowhere else
  records-only : (after : Ledger) → after.reached ≡ m.reached → after.asked ≡ m.asked → after.tables ≡ m.tables
      → ((t : Told) → Contains after.sent t → IsRowIn g m (g.place t.key.hash) t.row) → ComesFromClients g after
  records-only after reached asked tables sent = record {
    rows = λ d p name row shown found.
        reaches p row (s.rows d p name row shown (subst (λ (x : ℕ → Place → Listed). find_named (x d p).list name ≡ Some row) tables found));
    origin = λ a there.
        let o : WasAsked m a = s.origin a (subst (λ (x : List Reach). Contains x a) reached there) in
        (o.0, subst (λ (x : List Reach). Contains x o.0) (sym asked) o.1, o.2, o.3);
    sent = λ t told. reaches (g.place t.key.hash) t.row (sent t told);
  }
    where
      reaches : (p : Place) (row : Row) → IsRowIn g m p row → IsRowIn g after p row
      reaches p row is = (is.0, subst (λ (x : List Reach). Contains x is.0) (sym reached) is.1, is.2, is.3)

  sets : (after : Ledger) → after.reached ≡ m.reached → after.asked ≡ m.asked → after.tables ≡ m.tables → after.sent ≡ m.sent
      → ComesFromClients g after
  sets after reached asked tables sent =
      records-only after reached asked tables (λ t told. s.sent t (subst (λ (x : List Told). Contains x t) sent told))

  sends : (t : Told) → CanSend g m t → ComesFromClients g (record m { sent = t ∷ m.sent })
  sends t can = records-only (record m { sent = t ∷ m.sent }) refl refl refl (λ x told. by x (front-or-behind t m.sent x told))
    where
      own : IsRowIn g m (g.place t.key.hash) t.row
      own = (record { device = t.from; hash = t.key.hash; base = can.base }, can.stands, refl, can.row_is)

      by : (x : Told) → (x ≡ t) ⊎ Contains m.sent x → IsRowIn g m (g.place x.key.hash) x.row
      by x (inl is) = subst (λ (y : Told). IsRowIn g m (g.place y.key.hash) y.row) (sym is) own
      by x (inr old) = s.sent x old

-- ---- every plain change

pub plain-step : PlainChangesComeFromClients
plain-step g m (Asks a) after is plain s = subst (λ (x : Ledger). ComesFromClients g x) (sym is.1) (asks g m s a)
plain-step g m (Takes a) after is plain s = subst (λ (x : Ledger). ComesFromClients g x) (sym is) (takes g m s a plain)
plain-step g m (Files d filed records) after is plain s =
    subst (λ (x : Ledger). ComesFromClients g x) (sym is.2) (sets g m s (record m { records = records }) refl refl refl refl)
plain-step g m (Marks d filed to records) after is plain s =
    subst (λ (x : Ledger). ComesFromClients g x) (sym is.3) (sets g m s (record m { records = records }) refl refl refl refl)
plain-step g m (Drops d filed records) after is plain s =
    subst (λ (x : Ledger). ComesFromClients g x) (sym is.3) (sets g m s (record m { records = records }) refl refl refl refl)
plain-step g m (Sends t) after is plain s = subst (λ (x : Ledger). ComesFromClients g x) (sym is.1) (sends g m s t is.0)
plain-step g m (Merges row tables) after is plain s = subst (λ (x : Ledger). ComesFromClients g x) (sym is.1) (merges g m s row tables is.0 plain)
plain-step g m (Hears h) after is plain s =
    subst (λ (x : Ledger). ComesFromClients g x) (sym is.2) (sets g m s (record m { heard = h ∷ m.heard }) refl refl refl refl)
