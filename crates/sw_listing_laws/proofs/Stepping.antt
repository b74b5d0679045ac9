-- What the ledger makes of each kind of step at an object.
use Rattle.std.proofs.Common.{◌≡◌, ℕ, Bool, true, false, List, [], ◌∷◌, ◌++◌, map, Option, None, Some, ◌⊎◌, inl, inr, refl, sym, ◌∙◌, ap, subst}
use Rattle.std.specs.Bool.{⊤}
use Rattle.std.specs.List.{Contains, fold}
use Rattle.sw_hashpath.specs.Places.{IsPlaceOf}
use Rattle.sw_hashpath.specs.declared.name.Name.{Name}
use Rattle.sw_hashpath.specs.declared.place.Place.{Place}
use Rattle.sw_machine.specs.Machine.{KnownWrite, ObjSide, made_writes}
use Rattle.sw_machine.specs.Sides.{TellsAt}
use Rattle.sw_object_steps.specs.Journals.{Hash}
use Rattle.sw_object_steps.specs.Outlines.{is_before, outline_of, standing_time}
use Rattle.sw_object_steps.specs.Recorded.{is_gone}
use Rattle.sw_object_steps.specs.Rules.{Writes, obj_applied, obj_rules}
use Rattle.sw_object_steps.specs.Steps.{write_of}
use Rattle.sw_object_steps.specs.Values.{Records}
use Rattle.sw_object_steps.specs.declared.change.Change.{Change}
use Rattle.sw_object_steps.specs.declared.change.Change.TheVariants.{Put, Post, Delete, Receive, MarkRecord, DropRecord}
use Rattle.sw_pending.specs.Records.{key_of, marked, new_record}
use Rattle.sw_pending.specs.Rules.{are_done}
use Rattle.sw_pending.specs.declared.filed.Filed.{Filed}
use Rattle.sw_pending.specs.declared.key.RecordKey.{RecordKey}
use Rattle.sw_pending_laws.proofs.Among.{in-front}
use Rattle.sw_pending_laws.specs.Ledger.{CanDrop, HasHeard, Heard, IsHeld, IsLatest, Ledger}
use Rattle.sw_pending_laws.specs.Ledger.Change.{Drops, Hears, Marks}
use Rattle.sw_rows.specs.declared.row.Row.{Row}
use Rattle.sw_state.specs.Bases.{base_at, base_time}
use Rattle.sw_state.specs.declared.base.Base.{Base}
use Rattle.sw_state.specs.declared.base.Base.TheVariants as bases
use Rattle.sw_state.specs.declared.write.Write.{Write}
use Rattle.sw_listing_laws.proofs.Accounts.{Fits, HasReached, ObjAccounts}
use Rattle.sw_listing_laws.proofs.Going.{goes-by, goes-on}
use Rattle.sw_listing_laws.proofs.Grounds.{ground, place-of}
use Rattle.sw_listing_laws.proofs.Making.{IsMadeOf, Turns}
use Rattle.sw_listing_laws.proofs.Objects.{ObjNext, asked-same, asks, filing, sets, still, takes, touches}
use Rattle.sw_listing_laws.proofs.Recording.{IsFound, MaySet, dropping, each-done, marking}
use Rattle.sw_listing_laws.proofs.Setting.{set-is, set_at, set_value}
use Rattle.sw_listing_laws.proofs.Standing.{all-earlier}
use Rattle.sw_listing_laws.proofs.Writing.{Filing, Nothing, WriteLeaves, Writing, allowed-deletion, allowed-put, filing-write, plain-write}
use Rattle.sw_listing_laws.specs.Asking.{is_asked}
use Rattle.sw_listing_laws.specs.Plain.{Cluster, IsNamed}

-- ---- what is asked of a step

-- a row that was sent for the record is held by that device
pub record CanHear (c : Cluster) (l : Ledger) (device : ℕ) (key : RecordKey) (to : ℕ) : Type 0 where
  pub row : Row
  pub sent : Contains l.sent (record { from = device; key = key; row = row })
  pub held : IsHeld (l.tables to ((ground c).place key.hash)) row.name row.created_at row.deleted

-- all devices that keep the container of the name are these
abbrev pub AreAll : Cluster → Name → List ℕ → Type 0
AreAll c name all = (place : Place) → IsPlaceOf c.nodes.secrets name place → (r : ℕ) → Contains (c.replicas place) r → Contains all r

abbrev pub IsFair : Cluster → Ledger → ℕ → Name → Change → Type 0
IsFair c l device name (Receive write) = (b : Base) → base_at write.time write.kind ≡ Some b → HasReached l name.hash b
IsFair c l device name (MarkRecord filed to) = CanHear c l device (key_of filed) to
IsFair c l device name (DropRecord filed all) = IsNamed c filed.name × AreAll c filed.name all
IsFair c l device name change = ⊤

-- ---- one step

module _ (c : Cluster) (m : ObjSide) (l : Ledger) (accounts : ObjAccounts c m l.records l.reached) (device : ℕ) (name : Name) (named : IsNamed c name)
    (after : ObjSide) (tell : (d : ℕ) (h : Hash) → TellsAt c.nodes.lock after d h) where
  fits : Fits c l.records l.reached device name.hash (m.half.holds device name.hash)
  fits = accounts.fits device name.hash

  module _ (change : Change) (t : Turns m device name change after) where
    known-by : (news : List KnownWrite) → made_writes name t.made ≡ news → after.known ≡ m.known ++ map (λ n. (device, n)) news
    known-by news is = t.known ∙ ap (λ (ns : List KnownWrite). m.known ++ map (λ n. (device, n)) ns) is

    -- ---- writes

    none : (asks : Bool) → t.made ≡ [] → ObjNext c m l asks after
    none asks is =
        still c m l accounts device name named after tell t.others asks (t.here ∙ ap (fold obj_applied (m.half.holds device name.hash)) is)
        (known-by [] (ap (made_writes name) is))

    asked : (b : Base) (w : Write) → base_at w.time w.kind ≡ Some b
        → is_before (standing_time (outline_of (m.half.holds device name.hash).state)) (base_time b) ≡ true
        → WriteLeaves (m.half.holds device name.hash) name (new_record name (base_time b) ∷ []) w t.made → ObjNext c m l true after
    asked b w base_is before (Nothing left) =
        still c m l accounts device name named after tell t.others true (t.here ∙ left.0) (known-by [] left.1)
    asked b w base_is before (Filing left) =
        filing c m l accounts device name named after tell t.others b w base_is (t.here ∙ left.0) (known-by [] left.1)
    asked b w base_is before (Writing left) =
        asks c m l accounts device name named after tell t.others b w base_is before (t.here ∙ left.0)
        (known-by (record { name = name; write = w } ∷ []) left.1)

    came : (w : Write) → ((b : Base) → base_at w.time w.kind ≡ Some b → HasReached l name.hash b)
        → WriteLeaves (m.half.holds device name.hash) name [] w t.made → ObjNext c m l false after
    came w plain (Nothing left) = still c m l accounts device name named after tell t.others false (t.here ∙ left.0) (known-by [] left.1)
    came w plain (Filing left) = still c m l accounts device name named after tell t.others false (t.here ∙ left.0) (known-by [] left.1)
    came w plain (Writing left) = by (base_at w.time w.kind) refl
      where
        known : after.known ≡ m.known ++ (device, record { name = name; write = w }) ∷ []
        known = known-by (record { name = name; write = w } ∷ []) left.1

        by : (o : Option Base) → base_at w.time w.kind ≡ o → ObjNext c m l false after
        by None is = touches c m l accounts device name named after tell t.others false w is (t.here ∙ left.0) known
        by (Some b) is = takes c m l accounts device name named after tell t.others w b is (plain b is) (t.here ∙ left.0) known

    -- what a client asks for that puts nothing and deletes nothing
    noted : (w : Write) → base_at w.time w.kind ≡ None → WriteLeaves (m.half.holds device name.hash) name [] w t.made → ObjNext c m l true after
    noted w no_base (Nothing left) = still c m l accounts device name named after tell t.others true (t.here ∙ left.0) (known-by [] left.1)
    noted w no_base (Filing left) = still c m l accounts device name named after tell t.others true (t.here ∙ left.0) (known-by [] left.1)
    noted w no_base (Writing left) =
        touches c m l accounts device name named after tell t.others true w no_base (t.here ∙ left.0)
        (known-by (record { name = name; write = w } ∷ []) left.1)

    -- ---- records

    module _ (filed stood : Filed) (is : IsFound (m.half.holds device name.hash) name.hash filed stood) where
      own : (key_of stood).hash ≡ name.hash
      own = ap (λ (k : RecordKey). k.hash) is.key_is ∙ is.hash_is

      stood-name : stood.name ≡ c.names name.hash
      stood-name = fits.named (key_of filed) stood is.hash_is is.stands

      stands : l.records device (key_of stood) ≡ Some stood
      stands = fits.filed (key_of stood) own ∙ (ap (m.half.holds device name.hash).records is.key_is ∙ is.stands)

      marks : (to : ℕ) → CanHear c l device (key_of filed) to
          → fold obj_applied (m.half.holds device name.hash) t.made ≡ set_value (m.half.holds device name.hash) (key_of stood) (Some (marked stood to))
          → made_writes name t.made ≡ [] → ObjNext c m l false after
      marks to can left unmade = record {
        next = next;
        goes = goes-on (ground c) l mid next
            (goes-by (ground c) l (Hears h) mid (can.sent, can.held, refl) tt (λ x there. there) (λ x there. there))
            (goes-by (ground c) mid (Marks device stood to new) next
            (stands, heard, set-is l.records device (key_of stood) (Some (marked stood to)), refl) tt (λ x there. there) (λ x there. there));
        accounts = sets c m l accounts device name named after tell t.others (key_of stood) (Some (marked stood to)) own names (t.here ∙ left)
            (known-by [] unmade);
        tables = refl;
        news = [];
        known = known-by [] unmade;
        asked = λ before so. asked-same c false before l.asked so;
      }
        where
          h : Heard
          h = record { told = record { from = device; key = key_of filed; row = can.row }; to = to }

          mid : Ledger
          mid = record l { heard = h ∷ l.heard }

          new : ℕ → Records
          new = set_at l.records device (key_of stood) (Some (marked stood to))

          next : Ledger
          next = record mid { records = new }

          heard : HasHeard mid device (key_of stood) to
          heard = subst (λ (k : RecordKey). HasHeard mid device k to) (sym is.key_is) (can.row, in-front h l.heard)

          names : (f : Filed) → Some (marked stood to) ≡ Some f → f.name ≡ c.names name.hash
          names f same = let one : f.name ≡ stood.name = cc in one ∙ stood-name

      drops : (all : List ℕ) → IsNamed c filed.name → AreAll c filed.name all
          → (are_done all stood.done ≡ true) ⊎ (is_gone (m.half.holds device name.hash).state filed.time ≡ true)
          → fold obj_applied (m.half.holds device name.hash) t.made ≡ set_value (m.half.holds device name.hash) (key_of stood) None
          → made_writes name t.made ≡ [] → ObjNext c m l false after
      drops all names are may left unmade = record {
        next = next;
        goes = goes-by (ground c) l (Drops device stood new) next (stands, can may, set-is l.records device (key_of stood) None, refl) tt
            (λ x there. there) (λ x there. there);
        accounts = sets c m l accounts device name named after tell t.others (key_of stood) None own (λ f same. cc) (t.here ∙ left) (known-by [] unmade);
        tables = refl;
        news = [];
        known = known-by [] unmade;
        asked = λ before so. asked-same c false before l.asked so;
      }
        where
          new : ℕ → Records
          new = set_at l.records device (key_of stood) None

          next : Ledger
          next = record l { records = new }

          place : Place
          place = (ground c).place stood.name.hash

          home : IsPlaceOf c.nodes.secrets filed.name place
          home = place-of c filed.name place names (ap (λ (k : RecordKey). (ground c).place k.hash) (sym is.key_is))

          can : (are_done all stood.done ≡ true) ⊎ (is_gone (m.half.holds device name.hash).state filed.time ≡ true) → CanDrop (ground c) l device stood
          can (inl done) = inl (λ r ring. each-done all stood.done done r (are place home r ring))
          can (inr gone) =
              inr (subst (λ (k : RecordKey). IsLatest l device k.hash k.time) (sym is.key_is)
              (subst (λ (h : Hash). IsLatest l device h filed.time) (sym is.hash_is)
              (all-earlier l.reached device name.hash (m.half.holds device name.hash).state.base filed.time gone fits.stands)))

  -- ---- each kind of step

  pub stepped : (change : Change) → Turns m device name change after → IsFair c l device name change → ObjNext c m l (is_asked change) after
  stepped (Put time content none_match) t fair = by t.outcome
    where
      by : (t.made ≡ []) ⊎ IsMadeOf obj_rules (m.half.holds device name.hash) name.hash (Writes name (Put time content none_match)) t.made
          → ObjNext c m l true after
      by (inl is) = none (Put time content none_match) t true is
      by (inr some) =
          asked (Put time content none_match) t (bases.Put time content) (write_of (Put time content none_match)) refl
          (allowed-put (m.half.holds device name.hash).state time content none_match some.allowed)
          (filing-write (m.half.holds device name.hash) name (write_of (Put time content none_match)) t.made (new_record name time) some.part)
  stepped (Delete time if_delete_at) t fair = by t.outcome
    where
      by : (t.made ≡ []) ⊎ IsMadeOf obj_rules (m.half.holds device name.hash) name.hash (Writes name (Delete time if_delete_at)) t.made
          → ObjNext c m l true after
      by (inl is) = none (Delete time if_delete_at) t true is
      by (inr some) =
          asked (Delete time if_delete_at) t (bases.Del time) (write_of (Delete time if_delete_at)) refl
          (allowed-deletion (m.half.holds device name.hash).state time if_delete_at some.allowed)
          (filing-write (m.half.holds device name.hash) name (write_of (Delete time if_delete_at)) t.made (new_record name time) some.part)
  stepped (Post time heads) t fair = by t.outcome
    where
      by : (t.made ≡ []) ⊎ IsMadeOf obj_rules (m.half.holds device name.hash) name.hash (Writes name (Post time heads)) t.made → ObjNext c m l true after
      by (inl is) = none (Post time heads) t true is
      by (inr some) =
          noted (Post time heads) t (write_of (Post time heads)) refl
          (plain-write (m.half.holds device name.hash) name (write_of (Post time heads)) t.made some.part)
  stepped (Receive write) t fair = by t.outcome
    where
      by : (t.made ≡ []) ⊎ IsMadeOf obj_rules (m.half.holds device name.hash) name.hash (Writes name (Receive write)) t.made → ObjNext c m l false after
      by (inl is) = none (Receive write) t false is
      by (inr some) = came (Receive write) t write fair (plain-write (m.half.holds device name.hash) name write t.made some.part)
  stepped (MarkRecord filed to) t fair = by (marking (m.half.holds device name.hash) name t.made filed to t.outcome)
    where
      by : MaySet (m.half.holds device name.hash) name t.made filed (λ stood. ⊤) (λ stood. Some (marked stood to)) → ObjNext c m l false after
      by (inl same, unmade) =
          still c m l accounts device name named after tell t.others false (t.here ∙ same) (known-by (MarkRecord filed to) t [] unmade)
      by (inr set, unmade) = marks (MarkRecord filed to) t filed set.stood set.is_found to fair set.left unmade
  stepped (DropRecord filed all) t fair = by (dropping (m.half.holds device name.hash) name t.made filed all t.outcome)
    where
      by : MaySet (m.half.holds device name.hash) name t.made filed
          (λ stood. (are_done all stood.done ≡ true) ⊎ (is_gone (m.half.holds device name.hash).state filed.time ≡ true)) (λ stood. None)
          → ObjNext c m l false after
      by (inl same, unmade) =
          still c m l accounts device name named after tell t.others false (t.here ∙ same) (known-by (DropRecord filed all) t [] unmade)
      by (inr set, unmade) = drops (DropRecord filed all) t filed set.stood set.is_found all fair.0 fair.1 set.holds set.left unmade
