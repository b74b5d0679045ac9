-- From a machine that is sound with its account to a ledger of acknowledgements: what replicas hold of what clients asked for counts as kept before the run.
use Rattle.std.proofs.Common.{◌≡◌, ℕ, Bool, true, false, true≢false, List, [], Option, None, Some, ◌⊎◌, inl, inr, refl, sym, ◌∙◌, subst}
use Rattle.std.specs.List.{Contains}
use Rattle.sw_across_laws.proofs.Bases.{a-row}
use Rattle.sw_container_steps.proofs.Placing.{place-same, place-self}
use Rattle.sw_container_steps.specs.Entries.{is_same_place}
use Rattle.sw_exact_laws.specs.Laws.{AreTexts}
use Rattle.sw_hashpath.specs.Places.{IsPlaceOf}
use Rattle.sw_hashpath.specs.declared.place.Place.{Place}
use Rattle.sw_held_laws.proofs.Accounts.{IsAccount}
use Rattle.sw_held_laws.specs.Laws.{WaitsAt}
use Rattle.sw_listing_laws.proofs.Grounds.{ground, named-object, place-of}
use Rattle.sw_listing_laws.proofs.Standing.{reach}
use Rattle.sw_listing_laws.specs.Plain.{Cluster}
use Rattle.sw_machine.specs.Machine.{Machine}
use Rattle.sw_object_steps.specs.BaseRows.{IsRowOf}
use Rattle.sw_pending.specs.declared.key.RecordKey.{RecordKey}
use Rattle.sw_pending_laws.proofs.Among.{none-among}
use Rattle.sw_pending_laws.specs.Ledger.{IsHeld, IsRowIn, Ledger}
use Rattle.sw_pending_laws.specs.Sound.{IsOpen}
use Rattle.sw_pending_laws.specs.Sound as pending
use Rattle.sw_point_laws.specs.Laws.{ground_of, ledger_of}
use Rattle.sw_rows.specs.Rows.{Listed}
use Rattle.sw_rows.specs.declared.row.Row.{Row}
use Rattle.sw_shard_laws.specs.Ledger.{Holds}
use Rattle.sw_state.specs.Bases.{base_at, base_time, is_deletion}
use Rattle.sw_state.specs.declared.base.Base.{Base}
use Rattle.sw_account_laws.proofs.Among.{contains-or-not}
use Rattle.sw_account_laws.proofs.Collecting.{Collected, collect}
use Rattle.sw_account_laws.proofs.Starting.{all-reached, asked-reached, core, held-as, objects, origin, recorded, written-known}
use Rattle.sw_account_laws.specs.Accounts.{Account, Written}
use Rattle.sw_account_laws.specs.Sound.{IsSound}

module _ (c : Cluster) (root : Place → Place) (m : Machine) (account : Account) (sound : IsSound c root m account) (texts : AreTexts m) where
  -- what is held as the run begins
  abbrev pub Kept : ℕ → Place → Row → Type 0
  Kept device place row = Holds (ground_of c.replicas) (ledger_of m) device place row

  abbrev base : Ledger
  base = core c root m account sound texts

  abbrev key_for : Written → Base → RecordKey
  key_for w b = record { hash = w.name.hash; time = base_time b }

  -- of a device and a container: a row that the device holds
  abbrev IsGood : ℕ → Place → Row → Type 0
  IsGood d p row = Kept d p row × IsRowIn (ground c) base p row

  -- or no row of the write is asked of it, or it waits
  abbrev IsIdle : ℕ → Place → Written → Type 0
  IsIdle d p w = (b : Base) → w.asked ≡ true → base_at w.write.time w.write.kind ≡ Some b → (ground c).place w.name.hash ≡ p
      → Contains (c.replicas p) d → IsOpen (base.records w.device (key_for w b)) d

  abbrev IsRowFor : Written → Row → Type 0
  IsRowFor w row = (b : Base) → base_at w.write.time w.write.kind ≡ Some b → IsRowOf w.name.object b row

  module _ (d : ℕ) (p : Place) (w : Written) (there : Contains account w) where
    abbrev Way : Type 0
    Way = IsIdle d p w ⊎ ((row : Row) × IsGood d p row × IsRowFor w row)

    one-base : (b x : Base) → base_at w.write.time w.write.kind ≡ Some b → base_at w.write.time w.write.kind ≡ Some x → b ≡ x
    one-base b x is also = let same : Some b ≡ Some x = sym is ∙ also in cc

    -- what is asked of it waits, or is held
    asked-way : w.asked ≡ true → (b : Base) → base_at w.write.time w.write.kind ≡ Some b → (ground c).place w.name.hash ≡ p → Contains (c.replicas p) d
        → Way
    asked-way asked b is at ring = by (sound.recorded w b there asked is p home d ring row.0 row.1)
      where
        home : IsPlaceOf c.nodes.secrets w.name p
        home = subst (λ (q : Place). IsPlaceOf c.nodes.secrets w.name q) at (place-of c w.name ((ground c).place w.name.hash) (sound.named w there) refl)

        row : (row : Row) × IsRowOf w.name.object b row
        row = a-row w.name.object b (texts w.device (record { name = w.name; write = w.write }) (written-known c root m account sound texts w there))

        by : WaitsAt m w.device w.name b d ⊎ Holds (ground_of c.replicas) (ledger_of m) d p row.0 → Way
        by (inl waits) =
            inl (λ x asked also here ring.
            subst (λ (y : Base). IsOpen (base.records w.device (key_for w y)) d) (one-base b x is also) (waits.filed, waits.stands, waits.unmarked))
        by (inr holds) =
            inr (
              row.0,
              (
                holds,
                (
                  reach w.device w.name.hash b,
                  (all-reached c root m account sound texts).reaches w.device (record { name = w.name; write = w.write }) b
                      (written-known c root m account sound texts w there) is,
                  at,
                  subst (λ (o : List ℕ). IsRowOf o b row.0) (sym (named-object c w.name (sound.named w there))) row.1,
                ),
              ),
              λ x also. subst (λ (y : Base). IsRowOf w.name.object y row.0) (one-base b x is also) row.1,
            )

    pub way : Way
    way = by w.asked refl (base_at w.write.time w.write.kind) refl (is_same_place ((ground c).place w.name.hash) p) refl (contains-or-not (c.replicas p) d)
      where
        by : (asked : Bool) → w.asked ≡ asked → (o : Option Base) → base_at w.write.time w.write.kind ≡ o → (same : Bool)
            → is_same_place ((ground c).place w.name.hash) p ≡ same → Contains (c.replicas p) d ⊎ (Contains (c.replicas p) d → ⊥) → Way
        by false unasked o is same at ring = inl (λ x asked also here ring. absurd (true≢false (sym asked ∙ unasked)))
        by true asked None is same at ring = inl (λ x asked also here ring. let never : None ≡ Some x = sym is ∙ also in cc)
        by true asked (Some b) is false at ring =
            inl (λ x asked also here ring.
            absurd
            (true≢false
            (sym (subst (λ (q : Place). is_same_place ((ground c).place w.name.hash) q ≡ true) here (place-self ((ground c).place w.name.hash))) ∙ at)))
        by true asked (Some b) is true at (inr away) = inl (λ x asked also here ring. absurd (away ring))
        by true asked (Some b) is true at (inl ring) = asked-way asked b is (place-same ((ground c).place w.name.hash) p at) ring

  -- ---- the ledger

  pub remembered : (d : ℕ) (p : Place) → Collected (IsGood d p) (IsIdle d p) IsRowFor account
  remembered d p = collect (IsGood d p) (IsIdle d p) IsRowFor account (λ w there. way d p w there)

  abbrev rows_of_old : ℕ → Place → Listed
  rows_of_old d p = (remembered d p).listed

  abbrev pub ledger : Ledger
  ledger = record base { tables = rows_of_old }

  recorded-write : (w : Written) (b : Base) → Contains account w → w.asked ≡ true → base_at w.write.time w.write.kind ≡ Some b → (r : ℕ)
      → Contains (c.replicas ((ground c).place w.name.hash)) r
      → IsOpen (base.records w.device (key_for w b)) r ⊎ pending.Holds (ground c) ledger r w.name.hash b
  recorded-write w b there asked is r ring = by ((remembered r ((ground c).place w.name.hash)).each w there)
    where
      by : IsIdle r ((ground c).place w.name.hash) w
          ⊎ ((row : Row) × IsRowFor w row × IsHeld (rows_of_old r ((ground c).place w.name.hash)) row.name row.created_at row.deleted)
          → IsOpen (base.records w.device (key_for w b)) r ⊎ pending.Holds (ground c) ledger r w.name.hash b
      by (inl idle) = inl (idle b asked is refl ring)
      by (inr (row, row_for, held)) =
          inr (subst (λ (o : List ℕ). IsHeld (rows_of_old r ((ground c).place w.name.hash)) o (base_time b) (is_deletion b))
          (sym (named-object c w.name (sound.named w there)))
          (held-as (rows_of_old r ((ground c).place w.name.hash)) w.name.object b row (row_for b is) held))

  pub remembers : IsAccount c Kept [] m ledger
  remembers = record {
    objects = objects c root m account sound texts;
    rows = λ d p name row found. let is = (remembered d p).only name row found in (is.0, inr is.1.0);
    says = λ line there. absurd (none-among line there);
    steady = record {
      recorded = recorded c root m account sound texts rows_of_old recorded-write;
      own = asked-reached c root m account sound texts;
      sent = λ t there. absurd (none-among t there);
      heard = λ h there. absurd (none-among h there);
    };
    clients = record {
      rows = λ d p name row plain found. ((remembered d p).only name row found).1.1;
      origin = origin c root m account sound texts;
      sent = λ t there. absurd (none-among t there);
    };
  }
