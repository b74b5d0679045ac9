-- Where no record is pending, what is shown of a name is what is live.
use Rattle.std.proofs.Common.{◌≡◌, ℕ, Bool, true, false, List, Some, ◌⊎◌, inl, inr, refl, sym, ◌∙◌, ap, subst}
use Rattle.std.specs.Prelude.{⊤}
use Rattle.std.specs.List.{Contains}
use Rattle.std.proofs.lemmas.Bool.{both_ways}
use Rattle.sw_hashpath.specs.declared.place.Place.{Place}
use Rattle.sw_object_steps.specs.BaseRows.{IsRowOf}
use Rattle.sw_pending.specs.Rules.{is_done}
use Rattle.sw_rows.proofs.Greater.{found-of}
use Rattle.sw_rows.specs.Rows.{find_named}
use Rattle.sw_rows.specs.declared.row.Row.{Row}
use Rattle.sw_state.specs.Bases.{base_time, is_deletion}
use Rattle.sw_state.specs.declared.base.Base.{Base}
use Rattle.sw_pending_laws.proofs.Rows.{counts-both-flag, counts-both-time, row-flag, row-name, row-time}
use Rattle.sw_pending_laws.specs.Laws.{DoAgree, IsLive, IsSettled, SettledShowsExactly, ShowsExactly}
use Rattle.sw_pending_laws.specs.Ledger.{Ground, IsHeld, IsRowIn, Ledger, Reach, counts}
use Rattle.sw_pending_laws.specs.Sound.{ComesFromClients, Holds, IsOpen, IsSteady, WasAsked}

module _ (g : Ground) (m : Ledger) (s : IsSteady g m) (plain : ComesFromClients g m) (agree : DoAgree g m) (p : Place) (shown_at : g.is_hidden p ≡ false)
    (settled : IsSettled g m p) (r : ℕ) (ring : Contains (g.ring p) r) (name : List ℕ) where
  -- the device has each base of the container's name that reached any device, or what counts more
  held : (b : Reach) → Contains m.reached b → g.place b.hash ≡ p → g.object b.hash ≡ name → IsHeld (m.tables r p) name (base_time b.base) (is_deletion b.base)
  held b reached place object =
      let o : WasAsked m b = plain.origin b reached in
      let a : Reach = o.0 in
      let there : g.place a.hash ≡ p = ap g.place o.2 ∙ place in
      let in_ring : Contains (g.ring (g.place a.hash)) r = subst (λ (x : Place). Contains (g.ring x) r) (sym there) ring in
      let way : IsOpen (m.records a.device (record { hash = a.hash; time = base_time a.base })) r ⊎ Holds g m r a.hash a.base =
      s.recorded a.device (record { hash = a.hash; time = base_time a.base }) a.base o.1 refl r in_ring in
      by a there (ap g.object o.2 ∙ object) o.3 way
    where
      by : (a : Reach) → g.place a.hash ≡ p → g.object a.hash ≡ name → a.base ≡ b.base
          → IsOpen (m.records a.device (record { hash = a.hash; time = base_time a.base })) r ⊎ Holds g m r a.hash a.base
          → IsHeld (m.tables r p) name (base_time b.base) (is_deletion b.base)
      by a there named same (inl open_) =
          absurd (both_ways (is_done r (open_.0).done) open_.2
          (settled a.device (record { hash = a.hash; time = base_time a.base }) open_.0 open_.1 there r ring))
      by a there named same (inr has) =
          subst (λ (x : Base). IsHeld (m.tables r p) name (base_time x) (is_deletion x)) same
          (subst (λ (x : List ℕ). IsHeld (m.tables r p) x (base_time a.base) (is_deletion a.base)) named
          (subst (λ (x : Place). IsHeld (m.tables r x) (g.object a.hash) (base_time a.base) (is_deletion a.base)) there has))

  -- a row that is found counts at least as much as each that is held
  over : (row : Row) → find_named (m.tables r p).list name ≡ Some row → (time : ℕ) (gone : Bool) → IsHeld (m.tables r p) name time gone
      → counts row.created_at row.deleted time gone ≡ true
  over row found time gone has =
      let same : has.0 ≡ row = some (sym has.1 ∙ found) in
      subst (λ (x : Row). counts x.created_at x.deleted time gone ≡ true) same has.2
    where
      some : Some has.0 ≡ Some row → has.0 ≡ row
      some is = cc

  -- a row that is found is that of what reached under the name
  record IsRowAt (row : Row) : Type 0 where
    of : Reach
    reached : Contains m.reached of
    place_is : g.place of.hash ≡ p
    object_is : g.object of.hash ≡ name
    row_is : IsRowOf name of.base row

  found-at : (row : Row) → find_named (m.tables r p).list name ≡ Some row → IsRowAt row
  found-at row found = record {
    of = a;
    reached = from.1;
    place_is = from.2;
    object_is = object;
    row_is = subst (λ (x : List ℕ). IsRowOf x a.base row) object from.3;
  }
    where
      from : IsRowIn g m p row
      from = plain.rows r p name row shown_at found

      a : Reach
      a = from.0

      object : g.object a.hash ≡ name
      object = sym (row-name (g.object a.hash) a.base row from.3) ∙ (found-of (λ x. ⊤) (m.tables r p).list name row found (λ k d within. tt)).0

  shown : (row : Row) → find_named (m.tables r p).list name ≡ Some row → row.deleted ≡ false
      → (a : Reach) × IsLive g m p name a × IsRowOf name a.base row
  shown row found live = (
    a,
    record {
      reached = at.reached;
      place_is = at.place_is;
      object_is = at.object_is;
      is_put = sym flag ∙ live;
      greatest = λ b reached same.
          subst (λ (x : Bool). counts (base_time a.base) x (base_time b.base) (is_deletion b.base) ≡ true) flag
          (subst (λ (n : ℕ). counts n row.deleted (base_time b.base) (is_deletion b.base) ≡ true) (row-time name a.base row at.row_is)
          (over row found (base_time b.base) (is_deletion b.base) (held b reached (ap g.place same ∙ at.place_is) (ap g.object same ∙ at.object_is))));
    },
    at.row_is,
  )
    where
      at : IsRowAt row
      at = found-at row found

      a : Reach
      a = at.of

      flag : row.deleted ≡ is_deletion a.base
      flag = row-flag name a.base row at.row_is

  live-shown : (a : Reach) → IsLive g m p name a
      → (row : Row) × (find_named (m.tables r p).list name ≡ Some row) × (row.deleted ≡ false) × IsRowOf name a.base row
  live-shown a live =
      let has : IsHeld (m.tables r p) name (base_time a.base) (is_deletion a.base) = held a live.reached live.place_is live.object_is in
      let row : Row = has.0 in
      let at : IsRowAt row = found-at row has.1 in
      let b : Reach = at.of in
      let flag : row.deleted ≡ is_deletion b.base = row-flag name b.base row at.row_is in
      let same : b.hash ≡ a.hash = agree.names b a at.reached live.reached (at.place_is ∙ sym live.place_is) (at.object_is ∙ sym live.object_is) in
      let less : counts (base_time a.base) false (base_time b.base) (is_deletion b.base) ≡ true =
      subst (λ (x : Bool). counts (base_time a.base) x (base_time b.base) (is_deletion b.base) ≡ true) live.is_put (live.greatest b at.reached same) in
      let more : counts (base_time b.base) (is_deletion b.base) (base_time a.base) false ≡ true =
      subst (λ (x : Bool). counts (base_time b.base) (is_deletion b.base) (base_time a.base) x ≡ true) live.is_put
      (subst (λ (x : Bool). counts (base_time b.base) x (base_time a.base) (is_deletion a.base) ≡ true) flag
      (subst (λ (n : ℕ). counts n row.deleted (base_time a.base) (is_deletion a.base) ≡ true) (row-time name b.base row at.row_is) has.2)) in
      let put : is_deletion b.base ≡ false = counts-both-flag (base_time a.base) (base_time b.base) (is_deletion b.base) less more in
      let at_one : base_time b.base ≡ base_time a.base = counts-both-time (base_time b.base) (is_deletion b.base) (base_time a.base) false more less in
      let one : b.base ≡ a.base = agree.contents b a at.reached live.reached same at_one (put ∙ sym live.is_put) in
      (row, has.1, flag ∙ put, subst (λ (x : Base). IsRowOf name x row) one at.row_is)

  exactly : ShowsExactly g m r p name
  exactly = record { shown = shown; live = live-shown }

pub shows-exactly : SettledShowsExactly
shows-exactly = exactly
