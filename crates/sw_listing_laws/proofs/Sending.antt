-- The ledger goes on with a message that is sent.
use Rattle.std.proofs.Common.{◌≡◌, ℕ, true, false, All, List, [], ◌∷◌, ◌++◌, map, Option, None, Some, ◌⊎◌, inl, inr, refl, sym, ◌∙◌, ap, subst}
use Rattle.std.specs.List.{Contains}
use Rattle.std.proofs.lemmas.List.Elements.{All-contains, All-map, All-weaker, Contains-append_cases, Contains-push_cases}
use Rattle.sw_container_steps.specs.Entries.{rows_of}
use Rattle.sw_hashpath.specs.declared.name.Name.{Name}
use Rattle.sw_hashpath.specs.declared.place.Place.{Place}
use Rattle.sw_machine.specs.Machine.{Carries, HasRow, Machine, Went}
use Rattle.sw_machine.specs.Messages.{Creation_of, Message, Ranges_of, Row_of, Rows_of, Update_of, Write_of}
use Rattle.sw_object_steps.specs.BaseRows.{IsBaseFor, IsRowOf}
use Rattle.sw_object_steps.specs.Outlines.{is_before}
use Rattle.sw_pending.specs.declared.filed.Filed.{Filed}
use Rattle.sw_pending_laws.proofs.Among.{behind, front-or-behind, in-front, none-among}
use Rattle.sw_pending_laws.specs.Ledger.{CanSend, Ledger}
use Rattle.sw_pending_laws.specs.Ledger.Change.{Sends}
use Rattle.sw_rows.specs.declared.numbered.Numbered.{Numbered}
use Rattle.sw_rows.specs.declared.row.Row.{Row}
use Rattle.sw_state.specs.Bases.{base_at}
use Rattle.sw_state.specs.Metas.{Meta}
use Rattle.sw_state.specs.States.{base_writes, meta_writes, writes_of}
use Rattle.sw_state.specs.declared.base.Base.{Base}
use Rattle.sw_state.specs.declared.base.Base.TheVariants as bases
use Rattle.sw_state.specs.declared.state.State.{State}
use Rattle.sw_state.specs.declared.write.Write.{Write}
use Rattle.sw_listing_laws.proofs.Accounts.{Accounts, HasReached, IsAccounted, IsRight, Says, told}
use Rattle.sw_listing_laws.proofs.Going.{Goes, LineNext, all-still, goes-by, goes-nowhere}
use Rattle.sw_listing_laws.proofs.Grounds.{ground, ground-place, named-object}
use Rattle.sw_listing_laws.proofs.Standing.{Stands, reach, stands-late, standing}
use Rattle.sw_listing_laws.specs.Plain.{Cluster, IsNamed, IsNamedMessage, IsPlainMessage}

-- ---- the write that a state has of its base

only : (x w : Write) → Contains (x ∷ []) w → w ≡ x
only x w there = by (front-or-behind x [] w there)
  where
    by : (w ≡ x) ⊎ Contains [] w → w ≡ x
    by (inl is) = is
    by (inr never) = absurd (none-among w never)

in-base : (o : Option Base) (w : Write) (b : Base) → Contains (base_writes o) w → base_at w.time w.kind ≡ Some b → o ≡ Some b
in-base None w b there is = absurd (none-among w there)
in-base (Some (bases.Put time content)) w b there is = ap (λ (x : Write). base_at x.time x.kind) (sym (only _ w there)) ∙ is
in-base (Some (bases.Del time)) w b there is = ap (λ (x : Write). base_at x.time x.kind) (sym (only _ w there)) ∙ is

in-meta : (o : Option Meta) (w : Write) (b : Base) → Contains (meta_writes o) w → base_at w.time w.kind ≡ Some b → ⊥
in-meta None w b there is = absurd (none-among w there)
in-meta (Some m) w b there is =
    let never : None ≡ Some b = ap (λ (x : Write). base_at x.time x.kind) (sym (only _ w there)) ∙ is in cc

written-base : (s : State) (w : Write) (b : Base) → Contains (writes_of s) w → base_at w.time w.kind ≡ Some b → s.base ≡ Some b
written-base s w b there is = by (Contains-append_cases (base_writes s.base) (meta_writes s.meta) w there)
  where
    by : Contains (base_writes s.base) w ⊎ Contains (meta_writes s.meta) w → s.base ≡ Some b
    by (inl of_base) = in-base s.base w b of_base is
    by (inr of_meta) = absurd (in-meta s.meta w b of_meta is)

module _ (c : Cluster) (m : Machine) (l : Ledger) (accounts : Accounts c m l) (from : ℕ) where
  -- ---- writes

  stands : (name : Name) (b : Base) → (m.objects.half.holds from name.hash).state.base ≡ Some b → Stands l.reached from name.hash (Some b)
  stands name b is = subst (λ (o : Option Base). Stands l.reached from name.hash o) is (accounts.objects.fits from name.hash).stands

  write-reached : (name : Name) (write : Write) → Contains (writes_of (m.objects.half.holds from name.hash).state) write → (b : Base)
      → base_at write.time write.kind ≡ Some b → HasReached l name.hash b
  write-reached name write there b is = (
    reach from name.hash b,
    (stands name b (written-base (m.objects.half.holds from name.hash).state write b there is)).0,
    refl,
    refl,
  )

  -- ---- rows

  row-right : (place : Place) (row : Row) → HasRow m from place row → IsRight c l place row
  row-right place row has =
      All-contains (IsRight c l place) (map (λ (n : Numbered). n.row) (rows_of (m.containers.half.holds from place)).list) row
      (All-map (IsRight c l place) (λ (n : Numbered). n.row) (rows_of (m.containers.half.holds from place)).list (accounts.right from place)) has

  -- ---- updates

  module _ (filed : Filed) (row : Row) (named : IsNamed c filed.name)
      (base : IsBaseFor filed (m.objects.half.holds from filed.name.hash).state (Some row)) where
    can-send : CanSend (ground c) l (told from filed row)
    can-send = record {
      base = base.0;
      stands = over.0;
      greatest = over.1;
      at_least = stands-late base.0 filed.time (subst (λ (o : Option Base). is_before (standing o) filed.time ≡ false) base.1 base.2);
      row_is = subst (λ (o : List ℕ). IsRowOf o base.0 row) (sym (named-object c filed.name named)) base.3;
    }
      where
        over : Stands l.reached from filed.name.hash (Some base.0)
        over = stands filed.name base.0 base.1

  -- ---- each kind of message

  -- it goes as the ledger has it, or a row is sent for a record
  unsaid : (message : Message) → IsAccounted c l message → ((next : Ledger) → Says c next (Went from message))
      → LineNext c (record m { sent = m.sent ++ message ∷ [] }) l (Went from message)
  unsaid message is says = record {
    next = l;
    goes = goes-nowhere (ground c) l;
    accounts = record {
      objects = accounts.objects;
      containers = accounts.containers;
      right = accounts.right;
      sent = λ x there. by x (Contains-push_cases m.sent message x there);
    };
    says = says l;
  }
    where
      by : (x : Message) → Contains m.sent x ⊎ (message ≡ x) → IsAccounted c l x
      by x (inl old) = accounts.sent x old
      by x (inr new) = subst (λ (y : Message). IsAccounted c l y) new is

  update : (to : ℕ) (filed : Filed) (place at : Place) (row : Row) → IsNamed c filed.name → (at ≡ place) ⊎ (c.is_hidden at ≡ true)
      → Carries c.nodes m from (Update_of to filed place at row)
      → LineNext c (record m { sent = m.sent ++ Update_of to filed place at row ∷ [] }) l (Went from (Update_of to filed place at row))
  update to filed place at row named plain carries = record {
    next = next;
    goes = goes;
    accounts = record {
      objects = accounts.objects;
      containers = accounts.containers;
      right = accounts.right;
      sent = λ x there. by x (Contains-push_cases m.sent (Update_of to filed place at row) x there);
    };
    says = (in-front (told from filed row) l.sent, there_is);
  }
    where
      next : Ledger
      next = record l { sent = told from filed row ∷ l.sent }

      there_is : place ≡ (ground c).place filed.name.hash
      there_is = ground-place c filed.name place named carries.0

      goes : Goes (ground c) l (record l { sent = told from filed row ∷ l.sent })
      goes = goes-by (ground c) l (Sends (told from filed row)) (record l { sent = told from filed row ∷ l.sent })
          (can-send filed row named (carries.1 (accounts.objects.tell from filed.name.hash)), refl) tt (λ a there. there)
          (behind (told from filed row) l.sent)

      goes_to : (at ≡ place) ⊎ (c.is_hidden at ≡ true) → (at ≡ (ground c).place filed.name.hash) ⊎ (c.is_hidden at ≡ true)
      goes_to (inl same) = inl (same ∙ there_is)
      goes_to (inr hidden) = inr hidden

      by : (x : Message) → Contains m.sent x ⊎ (Update_of to filed place at row ≡ x) → IsAccounted c (record l { sent = told from filed row ∷ l.sent }) x
      by x (inl old) = all-still c l (record l { sent = told from filed row ∷ l.sent }) goes m.sent accounts.sent x old
      by x (inr new) =
          subst (λ (y : Message). IsAccounted c (record l { sent = told from filed row ∷ l.sent }) y) new
          (from, in-front (told from filed row) l.sent, goes_to plain)

  -- what is right for a container is so where it goes, and for one that is hidden all is
  row-goes : (place at : Place) (row : Row) → (at ≡ place) ⊎ (c.is_hidden at ≡ true) → HasRow m from place row → IsRight c l at row
  row-goes place at row (inl same) has = subst (λ (p : Place). IsRight c l p row) (sym same) (row-right place row has)
  row-goes place at row (inr hidden) has = inl hidden

  rows-right : (place at : Place) (rows : List Row) → (at ≡ place) ⊎ (c.is_hidden at ≡ true) → All (HasRow m from place) rows → All (IsRight c l at) rows
  rows-right place at rows plain has = All-weaker (HasRow m from place) (IsRight c l at) (λ row there. row-goes place at row plain there) rows has

  pub sends : (message : Message) → Carries c.nodes m from message → IsPlainMessage c message → IsNamedMessage c message
      → LineNext c (record m { sent = m.sent ++ message ∷ [] }) l (Went from message)
  sends (Write_of to name write) carries plain named =
      unsaid (Write_of to name write) (write-reached name write (carries (accounts.objects.tell from name.hash))) (λ next. tt)
  sends (Row_of to place at row) carries plain named =
      unsaid (Row_of to place at row) (row-goes place at row plain (carries (accounts.containers.tell from place))) (λ next. tt)
  sends (Rows_of to place at rows) carries plain named =
      unsaid (Rows_of to place at rows) (rows-right place at rows plain (carries (accounts.containers.tell from place))) (λ next. tt)
  sends (Update_of to filed place at row) carries plain named = update to filed place at row named plain carries
  sends (Creation_of to place time) carries plain named = unsaid (Creation_of to place time) tt (λ next. tt)
  sends (Ranges_of to place ranges) carries plain named = unsaid (Ranges_of to place ranges) tt (λ next. tt)
