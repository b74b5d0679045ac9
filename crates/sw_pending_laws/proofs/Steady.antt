-- What every change keeps: each record that was filed stands with its device open, or the device was told.
use Rattle.std.proofs.Common.{◌≡◌, ℕ, ◌<◌, ◌≤◌, Bool, true, false, ◌==◌, List, [], ◌∷◌, Option, None, Some, ◌⊎◌}
use Rattle.std.proofs.Common.{inl, inr, refl, sym, ap, subst, arith}
use Rattle.std.specs.List.{Contains}
use Rattle.std.proofs.lemmas.Bool.{both_ways}
use Rattle.std.proofs.lemmas.Bool.Decides.{nat_tests}
use Rattle.sw_hashpath.specs.declared.place.Place.{Place}
use Rattle.sw_object_steps.specs.Journals.{Hash}
use Rattle.sw_object_steps.specs.Values.{Records}
use Rattle.sw_pending.specs.Records.{key_of, marked}
use Rattle.sw_pending.specs.Rules.{is_done}
use Rattle.sw_pending.specs.declared.filed.Filed.{Filed}
use Rattle.sw_pending.specs.declared.key.RecordKey.{RecordKey}
use Rattle.sw_rows.specs.Rows.{Listed}
use Rattle.sw_rows.specs.declared.row.Row.{Row}
use Rattle.sw_state.specs.Bases.{base_time, is_deletion}
use Rattle.sw_state.specs.declared.base.Base.{Base}
use Rattle.sw_pending_laws.proofs.Among.{behind, front-or-behind, in-front}
use Rattle.sw_pending_laws.proofs.Rows.{counts-trans, marked-itself, row-flag, row-name, row-time, table-rises}
use Rattle.sw_pending_laws.specs.Laws.{ChangesKeepSteady}
use Rattle.sw_pending_laws.specs.Ledger.{CanAsk, CanDrop, CanSend, Ground, HasHeard, Heard, IsHeld, IsLatest, IsSet, Ledger, Reach, Told, counts}
use Rattle.sw_pending_laws.specs.Ledger.Change.{Asks, Takes, Files, Marks, Drops, Sends, Merges, Hears}
use Rattle.sw_pending_laws.specs.Sound.{Covers, HasTold, Holds, IsOpen, IsRecorded, IsSteady}

abbrev reach : ℕ → Hash → Base → Reach
reach d hash b = record { device = d; hash = hash; base = b }

module _ (g : Ground) (m : Ledger) (s : IsSteady g m) where
  -- what reached or was sent stays, whatever else changes
  carry : (after : Ledger) → ((a : Reach) → Contains m.reached a → Contains after.reached a) → after.asked ≡ m.asked → (t : Told) → Covers g m t
      → Covers g after t
  carry after more asked t c = record {
    base = c.base;
    stands = more (reach t.from t.key.hash c.base) c.stands;
    at_least = c.at_least;
    over = λ b is time. c.over b (subst (λ (x : List Reach). Contains x (reach t.from t.key.hash b)) asked is) time;
    named = c.named;
  }

  asks : (a : Reach) → CanAsk m a → IsSteady g (record m { reached = a ∷ m.reached; asked = a ∷ m.asked })
  asks a can = record { recorded = recorded; own = own; sent = sent; heard = s.heard }
    where
      after : Ledger
      after = record m { reached = a ∷ m.reached; asked = a ∷ m.asked }

      recorded : (d : ℕ) (key : RecordKey) → IsRecorded g after d key (m.records d key)
      recorded d key b asked time r ring = by (front-or-behind a m.asked (reach d key.hash b) asked)
        where
          by : (reach d key.hash b ≡ a) ⊎ Contains m.asked (reach d key.hash b) → IsOpen (m.records d key) r ⊎ Holds g m r key.hash b
          by (inr old) = s.recorded d key b old time r ring
          by (inl is) =
              let f : Filed = can.filed.0 in
              let stood : m.records d (record { hash = key.hash; time = base_time b }) ≡ Some f =
              subst (λ (x : Reach). m.records x.device (record { hash = x.hash; time = base_time x.base }) ≡ Some f) (sym is) can.filed.1 in
              inl (
                f,
                subst (λ (n : ℕ). m.records d (record { hash = key.hash; time = n }) ≡ Some f) time stood,
                ap (λ (ds : List ℕ). is_done r ds) can.filed.2,
              )

      own : (b : Reach) → Contains after.asked b → Contains after.reached b
      own b asked = by (front-or-behind a m.asked b asked)
        where
          by : (b ≡ a) ⊎ Contains m.asked b → Contains after.reached b
          by (inl is) = subst (λ (x : Reach). Contains after.reached x) (sym is) (in-front a m.reached)
          by (inr old) = behind a m.reached b (s.own b old)

      sent : (t : Told) → Contains m.sent t → Covers g after t
      sent t told = record {
        base = c.base;
        stands = behind a m.reached (reach t.from t.key.hash c.base) c.stands;
        at_least = c.at_least;
        over = λ b asked time. over b time (front-or-behind a m.asked (reach t.from t.key.hash b) asked);
        named = c.named;
      }
        where
          c : Covers g m t
          c = s.sent t told

          never : (n k time : ℕ) → n < k → k ≡ time → time ≤ n → ⊥
          never n k time later is least = omega (arith, later, is, least)

          over : (b : Base) → base_time b ≡ t.key.time → (reach t.from t.key.hash b ≡ a) ⊎ Contains m.asked (reach t.from t.key.hash b)
              → counts t.row.created_at t.row.deleted (base_time b) (is_deletion b) ≡ true
          over b time (inr old) = c.over b old time
          over b time (inl is) =
              let later : base_time c.base < base_time b =
              subst (λ (x : Reach). IsLatest m x.device x.hash (base_time x.base)) (sym is) can.latest c.base c.stands in
              absurd (never (base_time c.base) (base_time b) t.key.time later time c.at_least)

  takes : (a : Reach) → IsSteady g (record m { reached = a ∷ m.reached })
  takes a = record {
    recorded = s.recorded;
    own = λ b old. behind a m.reached b (s.own b old);
    sent = λ t told. carry (record m { reached = a ∷ m.reached }) (behind a m.reached) refl t (s.sent t told);
    heard = s.heard;
  }

  -- one record is set, to what keeps its own part
  sets : (d : ℕ) (key : RecordKey) (o : Option Filed) (records : ℕ → Records) → IsSet d key o m.records records → IsRecorded g m d key o
      → IsSteady g (record m { records = records })
  sets d key o records is fits = record {
    recorded = λ e k. by e k (is.each e k);
    own = s.own;
    sent = λ t told. carry (record m { records = records }) (λ a there. there) refl t (s.sent t told);
    heard = s.heard;
  }
    where
      by : (e : ℕ) (k : RecordKey) → (records e k ≡ m.records e k) ⊎ ((e ≡ d) × (k ≡ key) × (records e k ≡ o)) → IsRecorded g m e k (records e k)
      by e k (inl same) = subst (λ (x : Option Filed). IsRecorded g m e k x) (sym same) (s.recorded e k)
      by e k (inr here) =
          subst (λ (x : Option Filed). IsRecorded g m e k x) (sym here.2)
          (subst (λ (x : ℕ). IsRecorded g m x k o) (sym here.0) (subst (λ (x : RecordKey). IsRecorded g m d x o) (sym here.1) fits))

  files : (d : ℕ) (filed : Filed) → filed.done ≡ [] → IsRecorded g m d (key_of filed) (Some filed)
  files d filed none b asked time r ring = inl (filed, refl, ap (λ (ds : List ℕ). is_done r ds) none)

  some-same : (f filed : Filed) → Some filed ≡ Some f → f.done ≡ filed.done
  some-same f filed is = cc

  -- what stands of the record's own part
  stands : (d : ℕ) (filed : Filed) → m.records d (key_of filed) ≡ Some filed → IsRecorded g m d (key_of filed) (Some filed)
  stands d filed stood = subst (λ (x : Option Filed). IsRecorded g m d (key_of filed) x) stood (s.recorded d (key_of filed))

  still-open : (filed : Filed) (r : ℕ) → IsOpen (Some filed) r → is_done r filed.done ≡ false
  still-open filed r open_ = subst (λ (ds : List ℕ). is_done r ds ≡ false) (some-same open_.0 filed open_.1) open_.2

  marks : (d : ℕ) (filed : Filed) (to : ℕ) → m.records d (key_of filed) ≡ Some filed → HasHeard m d (key_of filed) to
      → IsRecorded g m d (key_of filed) (Some (marked filed to))
  marks d filed to stood told b asked time r ring = by (stands d filed stood b asked time r ring)
    where
      row : Row
      row = told.0

      sent : Told
      sent = record { from = d; key = key_of filed; row = row }

      has : HasTold g m (record { told = sent; to = to })
      has = s.heard (record { told = sent; to = to }) told.1

      covered : Covers g m sent
      covered = s.sent sent has.0

      reaches : Holds g m to filed.name.hash b
      reaches =
          let held : IsHeld (m.tables to (g.place filed.name.hash)) (g.object filed.name.hash) row.created_at row.deleted =
          subst (λ (x : List ℕ). IsHeld (m.tables to (g.place filed.name.hash)) x row.created_at row.deleted) covered.named has.1 in (
            held.0,
            held.1,
            counts-trans (held.0).created_at (held.0).deleted row.created_at row.deleted (base_time b) (is_deletion b) held.2 (covered.over b asked time),
          )

      at : (mine : Bool) → (to == r) ≡ mine → IsOpen (Some filed) r → IsOpen (Some (marked filed to)) r ⊎ Holds g m r filed.name.hash b
      at true is open_ = inr (subst (λ (x : ℕ). Holds g m x filed.name.hash b) (grind (arith, nat_tests)) reaches)
      at false is open_ = inl (marked filed to, refl, marked-itself to filed.done r is (still-open filed r open_))

      by : IsOpen (Some filed) r ⊎ Holds g m r filed.name.hash b → IsOpen (Some (marked filed to)) r ⊎ Holds g m r filed.name.hash b
      by (inr held) = inr held
      by (inl open_) = at (to == r) refl open_

  drops : (d : ℕ) (filed : Filed) → m.records d (key_of filed) ≡ Some filed → CanDrop g m d filed → IsRecorded g m d (key_of filed) None
  drops d filed stood can b asked time r ring = by can (stands d filed stood b asked time r ring)
    where
      never : (n k : ℕ) → n < k → n ≡ k → ⊥
      never n k earlier is = omega (arith, earlier, is)

      by : CanDrop g m d filed → IsOpen (Some filed) r ⊎ Holds g m r filed.name.hash b → IsOpen None r ⊎ Holds g m r filed.name.hash b
      by can (inr held) = inr held
      by (inl all) (inl open_) = absurd (both_ways (is_done r filed.done) (still-open filed r open_) (all r ring))
      by (inr latest) (inl open_) =
          absurd (never (base_time b) filed.time (latest b (s.own (reach d filed.name.hash b) asked)) time)

  sends : (t : Told) → CanSend g m t → IsSteady g (record m { sent = t ∷ m.sent })
  sends t can = record {
    recorded = s.recorded;
    own = s.own;
    sent = λ x told. by x (front-or-behind t m.sent x told);
    heard = λ h told. (behind t m.sent h.told (s.heard h told).0, (s.heard h told).1);
  }
    where
      after : Ledger
      after = record m { sent = t ∷ m.sent }

      base : Base
      base = can.base

      covers-own : Covers g after t
      covers-own = record {
        base = base;
        stands = can.stands;
        at_least = can.at_least;
        over = λ b asked time.
            subst (λ (n : ℕ). counts n t.row.deleted (base_time b) (is_deletion b) ≡ true) (sym (row-time (g.object t.key.hash) base t.row can.row_is))
            (subst (λ (gone : Bool). counts (base_time base) gone (base_time b) (is_deletion b) ≡ true)
            (sym (row-flag (g.object t.key.hash) base t.row can.row_is)) (can.greatest b (s.own (reach t.from t.key.hash b) asked)));
        named = row-name (g.object t.key.hash) base t.row can.row_is;
      }

      by : (x : Told) → (x ≡ t) ⊎ Contains m.sent x → Covers g after x
      by x (inl is) = subst (λ (y : Told). Covers g after y) (sym is) covers-own
      by x (inr old) = carry after (λ a there. there) refl x (s.sent x old)

  merges : (tables : ℕ → Place → Listed)
      → ((d : ℕ) (p : Place) (name : List ℕ) (time : ℕ) (gone : Bool) → IsHeld (m.tables d p) name time gone → IsHeld (tables d p) name time gone)
      → IsSteady g (record m { tables = tables })
  merges tables rise = record {
    recorded = λ d key b asked time r ring. by (m.records d key) key b r (s.recorded d key b asked time r ring);
    own = s.own;
    sent = λ t told. carry after (λ a there. there) refl t (s.sent t told);
    heard = heard;
  }
    where
      after : Ledger
      after = record m { tables = tables }

      by : (o : Option Filed) (key : RecordKey) (b : Base) (r : ℕ) → IsOpen o r ⊎ Holds g m r key.hash b → IsOpen o r ⊎ Holds g after r key.hash b
      by o key b r (inl open_) = inl open_
      by o key b r (inr held) = inr (rise r (g.place key.hash) (g.object key.hash) (base_time b) (is_deletion b) held)

      heard : (h : Heard) → Contains m.heard h → HasTold g after h
      heard h told =
          let has : HasTold g m h = s.heard h told in
          (has.0, rise h.to (g.place h.told.key.hash) h.told.row.name h.told.row.created_at h.told.row.deleted has.1)

  hears : (h : Heard) → HasTold g m h → IsSteady g (record m { heard = h ∷ m.heard })
  hears h has = record {
    recorded = s.recorded;
    own = s.own;
    sent = λ t told. carry after (λ a there. there) refl t (s.sent t told);
    heard = λ x told. by x (front-or-behind h m.heard x told);
  }
    where
      after : Ledger
      after = record m { heard = h ∷ m.heard }

      by : (x : Heard) → (x ≡ h) ⊎ Contains m.heard x → HasTold g after x
      by x (inl is) = subst (λ (y : Heard). HasTold g m y) (sym is) has
      by x (inr old) = s.heard x old

-- ---- every change

pub steady-step : ChangesKeepSteady
steady-step g m (Asks a) after is s = subst (λ (x : Ledger). IsSteady g x) (sym is.1) (asks g m s a is.0)
steady-step g m (Takes a) after is s = subst (λ (x : Ledger). IsSteady g x) (sym is) (takes g m s a)
steady-step g m (Files d filed records) after is s =
    subst (λ (x : Ledger). IsSteady g x) (sym is.2) (sets g m s d (key_of filed) (Some filed) records is.1 (files g m s d filed is.0))
steady-step g m (Marks d filed to records) after is s =
    subst (λ (x : Ledger). IsSteady g x) (sym is.3)
    (sets g m s d (key_of filed) (Some (marked filed to)) records is.2 (marks g m s d filed to is.0 is.1))
steady-step g m (Drops d filed records) after is s =
    subst (λ (x : Ledger). IsSteady g x) (sym is.3) (sets g m s d (key_of filed) None records is.2 (drops g m s d filed is.0 is.1))
steady-step g m (Sends t) after is s = subst (λ (x : Ledger). IsSteady g x) (sym is.1) (sends g m s t is.0)
steady-step g m (Merges row tables) after is s =
    subst (λ (x : Ledger). IsSteady g x) (sym is.1)
    (merges g m s tables (λ d p name time gone held. table-rises (m.tables d p) (tables d p) row (is.0 d p) name time gone held))
steady-step g m (Hears h) after is s = subst (λ (x : Ledger). IsSteady g x) (sym is.2) (hears g m s h (is.0, is.1))
