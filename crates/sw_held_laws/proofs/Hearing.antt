-- A device is to be marked in a record: the row that was sent for the record, and counts as acknowledged by that device, comes to the ledger.
use Rattle.std.proofs.Common.{◌≡◌, ℕ, nat_eq, Bool, true, false, cond, ◌&&◌, List, ◌∷◌, Some, ◌⊎◌, inl, inr, refl, sym, ◌∙◌, subst}
use Rattle.std.specs.List.{Contains}
use Rattle.std.proofs.lemmas.Bool.{and_parts, eq-eqb, eqb-true}
use Rattle.std.proofs.lemmas.List.Elements.{Contains-append_right}
use Rattle.sw_container_steps.proofs.Placing.{place-same, place-self}
use Rattle.sw_container_steps.specs.Entries.{is_same_place}
use Rattle.sw_hashpath.specs.declared.place.Place.{Place}
use Rattle.sw_listing_laws.proofs.Accounts.{told}
use Rattle.sw_listing_laws.proofs.Going.{Goes, goes-by}
use Rattle.sw_listing_laws.proofs.Grounds.{ground}
use Rattle.sw_listing_laws.proofs.Merging.{merge_at}
use Rattle.sw_listing_laws.proofs.Stepping.{CanHear}
use Rattle.sw_listing_laws.specs.Plain.{Cluster}
use Rattle.sw_machine.specs.Honest.{WasTold}
use Rattle.sw_machine.specs.Machine.{Machine, RunLine, Went}
use Rattle.sw_machine.specs.Messages.{Update_of}
use Rattle.sw_pending.specs.declared.key.RecordKey.{RecordKey}
use Rattle.sw_pending_laws.proofs.Among.{behind, in-front}
use Rattle.sw_pending_laws.proofs.Rows.{merged-one}
use Rattle.sw_pending_laws.specs.Ledger.{AreMerged, IsHeld, IsPlain, IsRowIn, Ledger}
use Rattle.sw_pending_laws.specs.Ledger.Change.{Merges}
use Rattle.sw_point_laws.proofs.Told.{acknowledged-within}
use Rattle.sw_rows.proofs.Greater.{stands-merged}
use Rattle.sw_rows.specs.Rows.{Listed, find_named, merged}
use Rattle.sw_rows.specs.declared.row.Row.{Row}
use Rattle.sw_held_laws.proofs.Accounts.{AreTaken, IsAccount, IsTaken}

-- ---- a row comes to the table of a device and container

module _ (c : Cluster) (to : ℕ) (place : Place) (row : Row) (l : Ledger) where
  abbrev is_here : ℕ → Place → Bool
  is_here d p = nat_eq d to && is_same_place p place

  abbrev pub with_told : Ledger
  with_told = record l { tables = merge_at to place l.tables row }

  pub row-goes : IsRowIn (ground c) l place row → Goes (ground c) l with_told
  row-goes is = goes-by (ground c) l (Merges row (merge_at to place l.tables row)) with_told (each, refl) plain (λ a there. there) (λ t there. there)
    where
      each : AreMerged row l.tables (merge_at to place l.tables row)
      each d p = by (is_here d p) (l.tables d p)
        where
          by : (b : Bool) (t : Listed) → (cond b (merged t row) t ≡ t) ⊎ (cond b (merged t row) t ≡ merged t row)
          by true t = inr refl
          by false t = inl refl

      plain : IsPlain (ground c) l (Merges row (merge_at to place l.tables row))
      plain d p = by (is_here d p) refl (l.tables d p)
        where
          by : (b : Bool) → is_here d p ≡ b → (t : Listed)
              → (cond b (merged t row) t ≡ t) ⊎ ((c.is_hidden p ≡ true) ⊎ IsRowIn (ground c) l p row)
          by true at t =
              let parts = and_parts (nat_eq d to) (is_same_place p place) at in
              inr (inr (subst (λ (q : Place). IsRowIn (ground c) l q row) (sym (place-same p place parts.1)) is))
          by false at t = inl refl

  pub row-held : IsHeld (with_told.tables to place) row.name row.created_at row.deleted
  row-held = by (is_here to place) here
    where
      here : is_here to place ≡ true
      here =
          let one : nat_eq to to ≡ true = eq-eqb to to refl in
          let two : is_same_place place place ≡ true = place-self place in rw (one, two) refl

      by : (b : Bool) → b ≡ true → IsHeld (cond b (merged (l.tables to place) row) (l.tables to place)) row.name row.created_at row.deleted
      by true is = stands-merged (l.tables to place) row
      by false is = cc

  pub row-taken : (kept : ℕ → Place → Row → Type 0) (done : List RunLine) → IsTaken c kept done to place row → AreTaken c kept done l.tables
      → AreTaken c kept done with_told.tables
  row-taken kept done this old d p name x found = by (is_here d p) refl found
    where
      one : (d ≡ to) × (p ≡ place)
          → (find_named (merged (l.tables d p) row).list name ≡ find_named (l.tables d p).list name)
          ⊎ ((row.name ≡ name) × (find_named (merged (l.tables d p) row).list name ≡ Some row))
          → find_named (merged (l.tables d p) row).list name ≡ Some x → (x.name ≡ name) × IsTaken c kept done d p x
      one at (inl same) found = old d p name x (sym same ∙ found)
      one at (inr new) found =
          let whole : Some row ≡ Some x = sym new.1 ∙ found in
          let is : row ≡ x = cc in
          subst (λ (y : Row). (y.name ≡ name) × IsTaken c kept done d p y) is (
            new.0,
            subst (λ (e : ℕ). IsTaken c kept done e p row) (sym at.0) (subst (λ (q : Place). IsTaken c kept done to q row) (sym at.1) this),
          )

      by : (b : Bool) → is_here d p ≡ b → find_named (cond b (merged (l.tables d p) row) (l.tables d p)).list name ≡ Some x
          → (x.name ≡ name) × IsTaken c kept done d p x
      by true at found =
          let parts = and_parts (nat_eq d to) (is_same_place p place) at in
          one (eqb-true d to parts.0, place-same p place parts.1) (merged-one (l.tables d p) row name) found
      by false at found = old d p name x found

-- ---- the row by which a device was told

module _ (c : Cluster) (kept : ℕ → Place → Row → Type 0) (done : List RunLine) (m : Machine) (l : Ledger) (account : IsAccount c kept done m l)
    (device : ℕ) (key : RecordKey) (to : ℕ) (was : WasTold c.nodes.secrets c.replicas done device key to) where
  abbrev pub heard : Ledger
  heard = with_told c to was.place was.row l

  abbrev sending : RunLine
  sending = Went device (Update_of to was.filed was.place was.place was.row)

  within : (line : RunLine) → Contains (sending ∷ was.behind) line → Contains done line
  within line there =
      subst (λ (xs : List RunLine). Contains xs line) (sym was.lines_are) (Contains-append_right was.before (sending ∷ was.behind) line there)

  went : Contains l.sent (told device was.filed was.row) × (was.place ≡ (ground c).place was.filed.name.hash)
  went = account.says sending (within sending (in-front sending was.behind))

  pub heard-goes : Goes (ground c) l heard
  heard-goes =
      row-goes c to was.place was.row l
      (subst (λ (p : Place). IsRowIn (ground c) l p was.row) (sym went.1) (account.clients.sent (told device was.filed was.row) went.0))

  pub heard-rows : AreTaken c kept done heard.tables
  heard-rows =
      row-taken c to was.place was.row l kept done
      (inl (acknowledged-within was.behind done (λ line there. within line (behind sending was.behind line there)) c.nodes.secrets c.replicas to was.place
      was.row was.acknowledged))
      account.rows

  pub can-hear : CanHear c heard device key to
  can-hear = record {
    row = was.row;
    sent = subst (λ (k : RecordKey). Contains l.sent (record { from = device; key = k; row = was.row })) was.key_is went.0;
    held =
        subst (λ (k : RecordKey). IsHeld (heard.tables to ((ground c).place k.hash)) was.row.name was.row.created_at was.row.deleted) was.key_is
        (subst (λ (p : Place). IsHeld (heard.tables to p) was.row.name was.row.created_at was.row.deleted) went.1
        (row-held c to was.place was.row l));
  }
