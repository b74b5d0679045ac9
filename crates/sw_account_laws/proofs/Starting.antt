-- From a machine that is sound with its account to a ledger that accounts for it. Its rows are those that a device has where it keeps all of its own; else it
-- has all rows of writes of the account.
use Rattle.std.proofs.Common.{◌≡◌, ℕ, nat_lt, Bool, true, false, true≢false, List, [], Option, None, Some, ◌⊎◌, inl, inr, refl, sym, ◌∙◌}
use Rattle.std.proofs.Common.{ap, subst, arith}
use Rattle.std.proofs.lemmas.Bool.{cases_Bool, cases_eq, le-ltb}
use Rattle.std.proofs.lemmas.List.Elements.{All-contains_itself, All-weaker}
use Rattle.std.specs.List.{Contains}
use Rattle.std.specs.Option.{option_map}
use Rattle.sw_across_laws.proofs.Bases.{a-row}
use Rattle.sw_container_steps.proofs.Placing.{place-same, place-self}
use Rattle.sw_container_steps.specs.Entries.{is_same_place, rows_of}
use Rattle.sw_container_steps.specs.Serving.{IsUnsplit}
use Rattle.sw_exact_laws.specs.Laws.{AreTexts}
use Rattle.sw_hashpath.specs.BadNames.{is_text}
use Rattle.sw_hashpath.specs.Places.{IsPlaceOf}
use Rattle.sw_hashpath.specs.declared.name.Name.{Name}
use Rattle.sw_hashpath.specs.declared.place.Place.{Place}
use Rattle.sw_held_laws.specs.Laws.{WaitsAt}
use Rattle.sw_keeper.specs.declared.tables.Tables.{Tables}
use Rattle.sw_listing_laws.proofs.Accounts as listing
use Rattle.sw_listing_laws.proofs.Accounts.{Fits, IsKnown, IsRight, ObjAccounts}
use Rattle.sw_listing_laws.proofs.Bringing.{HasOnly}
use Rattle.sw_listing_laws.proofs.Grounds.{ground, named-object, place-of}
use Rattle.sw_listing_laws.proofs.Messages.{of-write}
use Rattle.sw_listing_laws.proofs.Splitting.{IsKept, IsSplitWhereEmptied}
use Rattle.sw_listing_laws.proofs.Standing.{Stands, reach}
use Rattle.sw_listing_laws.specs.Plain.{Cluster, IsNamed, IsOfWrite}
use Rattle.sw_machine.specs.Machine.{KnownWrite, Machine, is_emptied, writes_among}
use Rattle.sw_machine.specs.Messages.{Message}
use Rattle.sw_object_steps.specs.BaseRows.{IsRowOf}
use Rattle.sw_object_steps.specs.Journals.{Hash}
use Rattle.sw_origin_laws.specs.Roots.{AreRoots}
use Rattle.sw_pending.specs.declared.key.RecordKey.{RecordKey}
use Rattle.sw_pending_laws.proofs.Among.{none-among}
use Rattle.sw_pending_laws.proofs.Rows.{row-flag, row-name, row-time}
use Rattle.sw_pending_laws.specs.Ledger.{IsHeld, IsRowIn, Ledger, Reach}
use Rattle.sw_pending_laws.specs.Sound.{ComesFromClients, IsOpen, IsSteady, WasAsked}
use Rattle.sw_pending_laws.specs.Sound as pending
use Rattle.sw_point_laws.specs.Laws.{ground_of, ledger_of}
use Rattle.sw_rows.proofs.Greater.{found-of}
use Rattle.sw_rows.specs.Rows.{IsListed, Listed, find_named, no_rows}
use Rattle.sw_rows.specs.declared.numbered.Numbered.{Numbered}
use Rattle.sw_rows.specs.declared.row.Row.{Row}
use Rattle.sw_shard_laws.specs.Changes.{AreClosed}
use Rattle.sw_shard_laws.specs.Ledger.{Has, Holds, HoldsBy, Way, index_in, served, served_in, table_at}
use Rattle.sw_shard_range.specs.Names.{is_hidden}
use Rattle.sw_shard_range.specs.declared.range.Range.{Range}
use Rattle.sw_split_steps.specs.Tables.{standing, table_of, ways_of}
use Rattle.sw_state.specs.Bases.{base_at, base_time, is_deletion}
use Rattle.sw_state.specs.States.{base_of}
use Rattle.sw_state.specs.declared.base.Base.{Base}
use Rattle.sw_state.specs.declared.state.State.{State}
use Rattle.sw_state.specs.declared.write.Write.{Write}
use Rattle.sw_account_laws.proofs.Among.{IsAskedFor, IsWritten, asked-there, asked-written, asked_by, known-there, known-written}
use Rattle.sw_account_laws.proofs.Collecting.{Collected, collect}
use Rattle.sw_account_laws.proofs.Reaching.{are-known, base-stands, reaches_of}
use Rattle.sw_account_laws.specs.Accounts.{Account, Written, known_of}
use Rattle.sw_account_laws.specs.Laws.{HidesByName}
use Rattle.sw_account_laws.specs.Sound.{IsSound}

-- ---- what keeps all of its own

-- whether it does
pub kept-or-not : (t : Option Tables) → IsKept t ⊎ (IsKept t → ⊥)
kept-or-not None = inl tt
kept-or-not (Some t) = by (cases_Bool t.emptied) t.ranges refl (cases_eq t.cursor 0)
  where
    by : (t.emptied ≡ true) ⊎ (t.emptied ≡ false) → (o : Option (List Range)) → t.ranges ≡ o → (t.cursor ≡ 0) ⊎ (t.cursor ≡ 0 → ⊥)
        → IsKept (Some t) ⊎ (IsKept (Some t) → ⊥)
    by (inl gone) o split cursor = inr (λ kept. true≢false (sym gone ∙ kept.0))
    by (inr stays) None split cursor = inl (stays, inl split)
    by (inr stays) (Some ranges) split (inl begun) = inl (stays, inr begun)
    by (inr stays) (Some ranges) split (inr away) =
        inr (λ kept. elim kept.1 [ inl none ↦ (let never : Some ranges ≡ None = sym split ∙ none in cc) | inr begun ↦ away begun ])

-- its own rows, or others
abbrev own_or : (t : Option Tables) → IsKept t ⊎ (IsKept t → ⊥) → Listed → Listed
own_or t (inl kept) others = rows_of t
own_or t (inr away) others = others

own-kept : (t : Option Tables) (way : IsKept t ⊎ (IsKept t → ⊥)) (others : Listed) → IsKept t → own_or t way others ≡ rows_of t
own-kept t (inl kept) others also = refl
own-kept t (inr away) others also = absurd (away also)

-- it leaves no name to a shard
none-served-in : (ways : Option (List Way)) (cursor : ℕ) (name : List ℕ) → (ways ≡ None) ⊎ (cursor ≡ 0) → served_in ways cursor name ≡ None
none-served-in None cursor name is = refl
none-served-in (Some ways) cursor name (inl never) = cc
none-served-in (Some ways) cursor name (inr is) =
    let above : nat_lt (index_in ways name) cursor ≡ false = le-ltb (index_in ways name) cursor (omega (arith, is)) in rw above refl

none-served : (t : Option Tables) (name : List ℕ) → IsKept t → served (standing t) name ≡ None
none-served None name kept = refl
none-served (Some t) name kept = by kept.1
  where
    by : (t.ranges ≡ None) ⊎ (t.cursor ≡ 0) → served_in (option_map ways_of t.ranges) t.cursor name ≡ None
    by (inl none) = none-served-in (option_map ways_of t.ranges) t.cursor name (inl (ap (option_map ways_of) none))
    by (inr begun) = none-served-in (option_map ways_of t.ranges) t.cursor name (inr begun)

standing-rows : (t : Option Tables) → (standing t).rows ≡ rows_of t
standing-rows None = refl
standing-rows (Some t) = refl

-- a row by the name, time and kind of its write
pub held-as : (l : Listed) (object : List ℕ) (base : Base) (row : Row) → IsRowOf object base row → IsHeld l row.name row.created_at row.deleted
    → IsHeld l object (base_time base) (is_deletion base)
held-as l object base row is held =
    subst (λ (o : List ℕ). IsHeld l o (base_time base) (is_deletion base)) (row-name object base row is)
    (subst (λ (time : ℕ). IsHeld l row.name time (is_deletion base)) (row-time object base row is)
    (subst (λ (gone : Bool). IsHeld l row.name row.created_at gone) (row-flag object base row is) held))

module _ (c : Cluster) (root : Place → Place) (m : Machine) (account : Account) (sound : IsSound c root m account) (texts : AreTexts m) where
  -- ---- what reached, and what was asked for

  pub named-known : (d : ℕ) (n : KnownWrite) → Contains m.objects.known (d, n) → IsNamed c n.name
  named-known d n there = by (known-written account d n (subst (λ (xs : List (ℕ × KnownWrite)). Contains xs (d, n)) sound.known there))
    where
      by : IsWritten account d n → IsNamed c n.name
      by is = subst (λ (x : ℕ × KnownWrite). IsNamed c x.1.name) is.is (sound.named is.w is.there)

  pub written-known : (w : Written) → Contains account w → Contains m.objects.known (known_of w)
  written-known w there = subst (λ (xs : List (ℕ × KnownWrite)). Contains xs (known_of w)) (sym sound.known) (known-there account w there)

  asked-known : (d : ℕ) (n : KnownWrite) → Contains (asked_by account) (d, n) → Contains m.objects.known (d, n)
  asked-known d n there = by (asked-written account d n there)
    where
      by : IsAskedFor account d n → Contains m.objects.known (d, n)
      by is = subst (λ (x : ℕ × KnownWrite). Contains m.objects.known x) is.is (written-known is.w is.there)

  abbrev pub reached_all : List Reach
  reached_all = reaches_of m.objects.known

  abbrev pub asked_all : List Reach
  asked_all = reaches_of (asked_by account)

  pub all-reached : IsKnown c m.objects.known reached_all
  all-reached = are-known c m.objects.known named-known

  pub all-asked : IsKnown c (asked_by account) asked_all
  all-asked = are-known c (asked_by account) (λ d n there. named-known d n (asked-known d n there))

  -- the ledger but for rows
  abbrev pub core : Ledger
  core = record {
    reached = reached_all;
    asked = asked_all;
    records = λ d key. (m.objects.half.holds d key.hash).records key;
    tables = λ d p. no_rows;
    sent = [];
    heard = [];
  }

  pub fits : (d : ℕ) (h : Hash) → Fits c core.records core.reached d h (m.objects.half.holds d h)
  fits d h = record {
    filed = λ key at. ap (λ (x : Hash). (m.objects.half.holds d x).records key) at;
    named = λ key f at is.
        sound.filed d key f (subst (λ (x : Hash). (m.objects.half.holds d x).records key ≡ Some f) (sym at) is) ∙ ap c.names at;
    stands = subst (λ (o : Option Base). Stands reached_all d h o) (sym base_is) (base-stands c m.objects.known reached_all all-reached d h);
  }
    where
      base_is : (m.objects.half.holds d h).state.base ≡ base_of (writes_among m.objects.known d h)
      base_is =
          ap (λ (s : State). s.base) (sound.stand d h)
          ∙ ap (λ (xs : List (ℕ × KnownWrite)). base_of (writes_among xs d h)) (sym sound.known)

  pub objects : ObjAccounts c m.objects core.records core.reached
  objects = record { tell = sound.objects_tell; fits = fits; known = all-reached }

  -- ---- what was asked for

  -- the write of a reach that was asked for
  pub record AskedReach (a : Reach) : Type 0 where
    pub w : Written
    pub there : Contains account w
    pub asked : w.asked ≡ true
    pub device_is : w.device ≡ a.device
    pub hash_is : w.name.hash ≡ a.hash
    pub base_is : base_at w.write.time w.write.kind ≡ Some a.base

  pub asked-reach : (a : Reach) → Contains asked_all a → AskedReach a
  asked-reach a there = by (all-asked.comes a there)
    where
      by : (n : KnownWrite) × Contains (asked_by account) (a.device, n) × (n.name.hash ≡ a.hash) × (base_at n.write.time n.write.kind ≡ Some a.base)
          → AskedReach a
      by from = of (asked-written account a.device from.0 from.1)
        where
          of : IsAskedFor account a.device from.0 → AskedReach a
          of is = record {
            w = is.w;
            there = is.there;
            asked = is.asked;
            device_is = ap (λ (x : ℕ × KnownWrite). x.0) is.is;
            hash_is = ap (λ (x : ℕ × KnownWrite). x.1.name.hash) is.is ∙ from.2;
            base_is = ap (λ (x : ℕ × KnownWrite). base_at x.1.write.time x.1.write.kind) is.is ∙ from.3;
          }

  -- each is known
  pub asked-reached : (a : Reach) → Contains asked_all a → Contains reached_all a
  asked-reached a there = by (asked-reach a there)
    where
      by : AskedReach a → Contains reached_all a
      by is =
          subst (λ (d : ℕ). Contains reached_all (reach d a.hash a.base)) is.device_is
          (subst (λ (h : Hash). Contains reached_all (reach is.w.device h a.base)) is.hash_is
          (all-reached.reaches is.w.device (record { name = is.w.name; write = is.w.write }) a.base (written-known is.w is.there) is.base_is))

  -- and each write was asked for somewhere
  pub origin : (a : Reach) → Contains reached_all a → WasAsked core a
  origin a there = by (all-reached.comes a there)
    where
      by : (n : KnownWrite) × Contains m.objects.known (a.device, n) × (n.name.hash ≡ a.hash) × (base_at n.write.time n.write.kind ≡ Some a.base)
          → WasAsked core a
      by from = of (known-written account a.device from.0 (subst (λ (xs : List (ℕ × KnownWrite)). Contains xs (a.device, from.0)) sound.known from.1))
        where
          of : IsWritten account a.device from.0 → WasAsked core a
          of is = (
            reach first.0.device first.0.name.hash a.base,
            all-asked.reaches first.0.device (record { name = first.0.name; write = first.0.write }) a.base (asked-there account first.0 first.1 first.2)
                (ap (λ (x : Write). base_at x.time x.kind) first.4 ∙ base_is),
            ap (λ (x : Name). x.hash) first.3 ∙ (ap (λ (x : ℕ × KnownWrite). x.1.name.hash) is.is ∙ from.2),
            refl,
          )
            where
              base_is : base_at is.w.write.time is.w.write.kind ≡ Some a.base
              base_is = ap (λ (x : ℕ × KnownWrite). base_at x.1.write.time x.1.write.kind) is.is ∙ from.3

              first : (first : Written) × Contains account first × (first.asked ≡ true) × (first.name ≡ is.w.name) × (first.write ≡ is.w.write)
              first = sound.origin is.w a.base is.there base_is

  -- ---- rows of what reached

  text-of : (a : Reach) → Contains reached_all a → is_text ((ground c).object a.hash) ≡ true
  text-of a there = by (all-reached.comes a there)
    where
      by : (n : KnownWrite) × Contains m.objects.known (a.device, n) × (n.name.hash ≡ a.hash) × (base_at n.write.time n.write.kind ≡ Some a.base)
          → is_text ((ground c).object a.hash) ≡ true
      by from =
          subst (λ (h : Hash). is_text ((ground c).object h) ≡ true) from.2
          (ap is_text (named-object c from.0.name (named-known a.device from.0 from.1)) ∙ texts a.device from.0 from.1)

  -- all of a container
  pub claims : (p : Place)
      → Collected (IsRowIn (ground c) core p) (λ (a : Reach). (ground c).place a.hash ≡ p → ⊥)
      (λ (a : Reach) (row : Row). IsRowOf ((ground c).object a.hash) a.base row) reached_all
  claims p =
      collect (IsRowIn (ground c) core p) (λ (a : Reach). (ground c).place a.hash ≡ p → ⊥)
      (λ (a : Reach) (row : Row). IsRowOf ((ground c).object a.hash) a.base row) reached_all
      (λ a there. by a there (is_same_place ((ground c).place a.hash) p) refl)
    where
      by : (a : Reach) → Contains reached_all a → (b : Bool) → is_same_place ((ground c).place a.hash) p ≡ b
          → ((ground c).place a.hash ≡ p → ⊥) ⊎ ((row : Row) × IsRowIn (ground c) core p row × IsRowOf ((ground c).object a.hash) a.base row)
      by a there true same =
          let row = a-row ((ground c).object a.hash) a.base (text-of a there) in
          inr (row.0, (a, there, place-same ((ground c).place a.hash) p same, row.1), row.1)
      by a there false differs =
          inl (λ is.
          true≢false
          (sym (subst (λ (q : Place). is_same_place ((ground c).place a.hash) q ≡ true) is (place-self ((ground c).place a.hash))) ∙ differs))

  -- ---- the ledger

  abbrev pub rows_at : ℕ → Place → Listed
  rows_at d p = own_or (m.containers.half.holds d p) (kept-or-not (m.containers.half.holds d p)) (claims p).listed

  abbrev pub ledger : Ledger
  ledger = record core { tables = rows_at }

  -- what a replica holds of what was asked for, it has by the ledger
  holds-so : (w : Written) (base : Base) → Contains account w → base_at w.write.time w.write.kind ≡ Some base → (r : ℕ) (p : Place)
      → (ground c).place w.name.hash ≡ p → (row : Row) → IsRowOf w.name.object base row
      → Holds (ground_of c.replicas) (ledger_of m) r p row
      → IsHeld (rows_at r p) w.name.object (base_time base) (is_deletion base)
  holds-so w base there is r p at row row_is holds = by (kept-or-not (m.containers.half.holds r p))
    where
      own : IsKept (m.containers.half.holds r p) → IsHeld (rows_of (m.containers.half.holds r p)) row.name row.created_at row.deleted
      own kept =
          subst (λ (l : Listed). Has l row) (standing-rows (m.containers.half.holds r p))
          (subst (λ (o : Option Place). HoldsBy (ground_of c.replicas) (ledger_of m) (table_at (ledger_of m) r p) row o)
          (none-served (m.containers.half.holds r p) row.name kept) holds)

      a : Reach
      a = reach w.device w.name.hash base

      claimed : ((ground c).place w.name.hash ≡ p → ⊥)
          ⊎ ((x : Row) × IsRowOf ((ground c).object w.name.hash) base x × IsHeld (claims p).listed x.name x.created_at x.deleted)
          → IsHeld (claims p).listed w.name.object (base_time base) (is_deletion base)
      claimed (inl never) = absurd (never at)
      claimed (inr x) =
          subst (λ (o : List ℕ). IsHeld (claims p).listed o (base_time base) (is_deletion base)) (named-object c w.name (sound.named w there))
          (held-as (claims p).listed ((ground c).object w.name.hash) base x.0 x.1 x.2)

      by : (way : IsKept (m.containers.half.holds r p) ⊎ (IsKept (m.containers.half.holds r p) → ⊥))
          → IsHeld (own_or (m.containers.half.holds r p) way (claims p).listed) w.name.object (base_time base) (is_deletion base)
      by (inl kept) = held-as (rows_of (m.containers.half.holds r p)) w.name.object base row row_is (own kept)
      by (inr away) =
          claimed ((claims p).each a
          (all-reached.reaches w.device (record { name = w.name; write = w.write }) base (written-known w there) is))

  -- what was asked for waits, or is held
  recorded-write : (w : Written) (base : Base) → Contains account w → w.asked ≡ true → base_at w.write.time w.write.kind ≡ Some base → (r : ℕ)
      → Contains (c.replicas ((ground c).place w.name.hash)) r
      → IsOpen (core.records w.device (record { hash = w.name.hash; time = base_time base })) r
      ⊎ pending.Holds (ground c) ledger r w.name.hash base
  recorded-write w base there asked is r ring = by (sound.recorded w base there asked is place home r ring row.0 row.1)
    where
      named : IsNamed c w.name
      named = sound.named w there

      place : Place
      place = (ground c).place w.name.hash

      home : IsPlaceOf c.nodes.secrets w.name ((ground c).place w.name.hash)
      home = place-of c w.name ((ground c).place w.name.hash) named refl

      row : (row : Row) × IsRowOf w.name.object base row
      row = a-row w.name.object base (texts w.device (record { name = w.name; write = w.write }) (written-known w there))

      by : WaitsAt m w.device w.name base r ⊎ Holds (ground_of c.replicas) (ledger_of m) r ((ground c).place w.name.hash) row.0
          → IsOpen (core.records w.device (record { hash = w.name.hash; time = base_time base })) r
          ⊎ pending.Holds (ground c) ledger r w.name.hash base
      by (inl waits) = inl (waits.filed, waits.stands, waits.unmarked)
      by (inr holds) =
          inr (subst (λ (o : List ℕ). IsHeld (rows_at r ((ground c).place w.name.hash)) o (base_time base) (is_deletion base))
          (sym (named-object c w.name named)) (holds-so w base there is r ((ground c).place w.name.hash) refl row.0 row.1 holds))

  -- by keys
  pub recorded : (tables : ℕ → Place → Listed)
      → ((w : Written) (base : Base) → Contains account w → w.asked ≡ true → base_at w.write.time w.write.kind ≡ Some base → (r : ℕ)
      → Contains (c.replicas ((ground c).place w.name.hash)) r
      → IsOpen (core.records w.device (record { hash = w.name.hash; time = base_time base })) r
      ⊎ pending.Holds (ground c) (record core { tables = tables }) r w.name.hash base)
      → (device : ℕ) (key : RecordKey) → pending.IsRecorded (ground c) (record core { tables = tables }) device key (core.records device key)
  recorded tables so device key base there time_is r ring = by (asked-reach (reach device key.hash base) there)
    where
      by : AskedReach (reach device key.hash base)
          → IsOpen (core.records device key) r ⊎ pending.Holds (ground c) (record core { tables = tables }) r key.hash base
      by is =
          subst (λ (time : ℕ).
          IsOpen (core.records device (record { hash = key.hash; time = time })) r
          ⊎ pending.Holds (ground c) (record core { tables = tables }) r key.hash base) time_is
          (subst (λ (h : Hash).
          IsOpen (core.records device (record { hash = h; time = base_time base })) r
          ⊎ pending.Holds (ground c) (record core { tables = tables }) r h base) is.hash_is
          (subst (λ (d : ℕ).
          IsOpen (core.records d (record { hash = is.w.name.hash; time = base_time base })) r
          ⊎ pending.Holds (ground c) (record core { tables = tables }) r is.w.name.hash base) is.device_is
          (so is.w base is.there is.asked is.base_is r
          (subst (λ (h : Hash). Contains (c.replicas ((ground c).place h)) r) (sym is.hash_is) ring))))

  -- ---- containers

  module _ (hides : HidesByName c) (roots : AreRoots root) where
    -- the rows of a container that the cluster doesn't hide are of its writes
    right : (d : ℕ) (p : Place) → HasOnly (IsRight c core p) (rows_of (m.containers.half.holds d p))
    right d p = by (cases_Bool (c.is_hidden p))
      where
        shown : c.is_hidden p ≡ false → is_hidden p ≡ false
        shown not_so = at (is_hidden p) refl
          where
            at : (b : Bool) → is_hidden p ≡ b → b ≡ false
            at true is = absurd (true≢false (sym (hides p is) ∙ not_so))
            at false is = refl

        each : ((n : Numbered) → Contains (rows_of (m.containers.half.holds d p)).list n → IsRight c core p n.row)
            → HasOnly (IsRight c core p) (rows_of (m.containers.half.holds d p))
        each all =
            All-weaker (λ (n : Numbered). Contains (rows_of (m.containers.half.holds d p)).list n) (λ (n : Numbered). IsRight c core p n.row) all
            (rows_of (m.containers.half.holds d p)).list (All-contains_itself (rows_of (m.containers.half.holds d p)).list)

        by : (c.is_hidden p ≡ true) ⊎ (c.is_hidden p ≡ false) → HasOnly (IsRight c core p) (rows_of (m.containers.half.holds d p))
        by (inl hidden) = each (λ n there. inl hidden)
        by (inr not_so) =
            let own : root p ≡ p = roots.own p (shown not_so) in
            each (λ n there.
            inr (of-write c m core all-reached p n.row
            (subst (λ (q : Place). IsOfWrite c m q n.row) own (sound.rows d p (ap is_hidden own ∙ shown not_so) n there))))

    -- where rows were taken away there are ranges
    split : (d : ℕ) (p : Place) → IsSplitWhereEmptied (m.containers.half.holds d p)
    split d p gone whole = by (m.containers.half.holds d p) refl gone whole
      where
        none-closed : (t : Tables) → t.ranges ≡ None → AreClosed (table_of t) → ⊥
        none-closed t none closed =
            let never : None ≡ Some closed.ways = sym (ap (option_map ways_of) none) ∙ closed.split in cc

        by : (o : Option Tables) → m.containers.half.holds d p ≡ o → is_emptied o ≡ true → IsUnsplit o → ⊥
        by None is gone whole = cc
        by (Some t) is gone whole =
            none-closed t whole
            (subst (λ (x : Option Tables). AreClosed (standing x)) is
            ((sound.points d p).emptied (subst (λ (x : Option Tables). (standing x).emptied ≡ true) (sym is) gone)).1)

    own-found : (d : ℕ) (p : Place) (name : List ℕ) (row : Row) → find_named (rows_of (m.containers.half.holds d p)).list name ≡ Some row
        → c.is_hidden p ≡ false → IsRowIn (ground c) core p row
    own-found d p name row found not_so =
        by (found-of (IsRight c core p) (rows_of (m.containers.half.holds d p)).list name row found (right d p)).1
      where
        by : IsRight c core p row → IsRowIn (ground c) core p row
        by (inl hidden) = absurd (true≢false (sym hidden ∙ not_so))
        by (inr is) = is

    found-in : (d : ℕ) (p : Place) (name : List ℕ) (row : Row) → c.is_hidden p ≡ false → find_named (rows_at d p).list name ≡ Some row
        → IsRowIn (ground c) ledger p row
    found-in d p name row not_so found = by (kept-or-not (m.containers.half.holds d p)) found
      where
        by : (way : IsKept (m.containers.half.holds d p) ⊎ (IsKept (m.containers.half.holds d p) → ⊥))
            → find_named (own_or (m.containers.half.holds d p) way (claims p).listed).list name ≡ Some row → IsRowIn (ground c) ledger p row
        by (inl kept) found = own-found d p name row found not_so
        by (inr away) found = ((claims p).only name row found).1

    listed-at : (d : ℕ) (p : Place) → IsListed (rows_at d p)
    listed-at d p = by (kept-or-not (m.containers.half.holds d p))
      where
        by : (way : IsKept (m.containers.half.holds d p) ⊎ (IsKept (m.containers.half.holds d p) → ⊥))
            → IsListed (own_or (m.containers.half.holds d p) way (claims p).listed)
        by (inl kept) = sound.listed d p
        by (inr away) = (claims p).is_listed

    -- ---- all of it

    pub starts : listing.IsSound c [] m ledger
    starts = record {
      accounts = record {
        objects = objects;
        containers = record {
          tell = sound.containers_tell;
          rows = λ d p kept. own-kept (m.containers.half.holds d p) (kept-or-not (m.containers.half.holds d p)) (claims p).listed kept;
          listed = listed-at;
          split = split;
        };
        right = right;
        sent = subst (λ (xs : List Message). listing.AreAccounted c ledger xs) (sym sound.quiet) (λ message there. absurd (none-among message there));
      };
      tells = λ line there. absurd (none-among line there);
      steady = record {
        recorded = recorded rows_at recorded-write;
        own = asked-reached;
        sent = λ t there. absurd (none-among t there);
        heard = λ h there. absurd (none-among h there);
      };
      clients = record {
        rows = found-in;
        origin = origin;
        sent = λ t there. absurd (none-among t there);
      };
    }
