-- A run leaves a machine that is sound with the account that it goes on to.
use Rattle.std.proofs.Common.{◌≡◌, ℕ, true, false, true≢false, List, [], ◌∷◌, ◌++◌, Option, None, Some, ◌⊎◌, inl, inr, refl, sym, ◌∙◌, ap, subst, append_assoc}
use Rattle.std.proofs.lemmas.Bool.{cases_Bool}
use Rattle.std.proofs.lemmas.List.{append-nil}
use Rattle.std.proofs.lemmas.List.Elements.{All-contains, All-contains_itself, All-weaker, Contains-append_left}
use Rattle.std.specs.List.{Contains, fold}
use Rattle.sw_container_steps.specs.Entries.{rows_of}
use Rattle.sw_exact_laws.proofs.Running.{are-honest, stay-tiled}
use Rattle.sw_exact_laws.proofs.Standing.{AllBringTiled, IsTiled}
use Rattle.sw_exact_laws.proofs.Tiling.{IsTiledList}
use Rattle.sw_exact_laws.specs.Laws.{AreTexts}
use Rattle.sw_hashpath.specs.declared.place.Place.{Place}
use Rattle.sw_held_laws.proofs.Accounts.{IsTaken}
use Rattle.sw_held_laws.proofs.Ending.{asked-waits}
use Rattle.sw_held_laws.specs.Laws.{WaitsAt}
use Rattle.sw_keeper.specs.declared.tables.Tables.{Tables}
use Rattle.sw_listing_laws.proofs.Grounds.{one-name}
use Rattle.sw_listing_laws.proofs.Running as listing
use Rattle.sw_listing_laws.proofs.Standing.{reach}
use Rattle.sw_listing_laws.specs.Plain.{Cluster, IsOfWrite, RunsSoundly}
use Rattle.sw_machine.proofs.Runs.{hashes-stand}
use Rattle.sw_machine.specs.Honest.{AreHonest}
use Rattle.sw_machine.specs.Laws.{HashesGoOn}
use Rattle.sw_machine.specs.Machine.{KnownWrite, Machine, RunLine, Runs, writes_among}
use Rattle.sw_machine.specs.Messages.{Message}
use Rattle.sw_origin_laws.proofs.Lists.{AreListed, list_of}
use Rattle.sw_origin_laws.proofs.Origins.{AllBringOfRoot, AreOfRoots, HasOrigins, IsOfOne, have-still}
use Rattle.sw_origin_laws.proofs.Running.{ends as origins-end}
use Rattle.sw_origin_laws.specs.Roots.{AreRooted, AreRoots, IsRootedRow, runs_of}
use Rattle.sw_pending_laws.proofs.Among.{none-among}
use Rattle.sw_pending_laws.specs.Sound.{WasAsked}
use Rattle.sw_point_laws.proofs.Ending.{acknowledged-is-held, held-stays-held, runs-begin-anew}
use Rattle.sw_point_laws.specs.Laws.{IsBegun, ground_of, ledger_of}
use Rattle.sw_rows.specs.declared.numbered.Numbered.{Numbered}
use Rattle.sw_rows.specs.declared.row.Row.{Row}
use Rattle.sw_shard_laws.specs.Ledger.{Holds}
use Rattle.sw_shard_range.specs.Names.{is_hidden}
use Rattle.sw_shard_range.specs.declared.range.Range.{Range}
use Rattle.sw_state.proofs.StateLaws.{joins_one_more}
use Rattle.sw_state.specs.Bases.{base_at}
use Rattle.sw_state.specs.States.{joined, state_of}
use Rattle.sw_state.specs.declared.base.Base.{Base}
use Rattle.sw_state.specs.declared.base.Base.TheVariants as bases
use Rattle.sw_state.specs.declared.state.State.{State}
use Rattle.sw_state.specs.declared.write.Kind.{Kind}
use Rattle.sw_state.specs.declared.write.Kind.TheVariants as kinds
use Rattle.sw_state.specs.declared.write.Write.{Write}
use Rattle.sw_account_laws.proofs.Among.{IsAskedFor, among-append, asked-there, asked-written, asked_by, known-there}
use Rattle.sw_account_laws.proofs.Going.{account-after}
use Rattle.sw_account_laws.proofs.Remembering.{Kept, remembers}
use Rattle.sw_account_laws.proofs.Remembering as remembering
use Rattle.sw_account_laws.proofs.Running.{IsAtEnd, ends}
use Rattle.sw_account_laws.proofs.Starting.{all-asked, starts}
use Rattle.sw_account_laws.proofs.Starting as starting
use Rattle.sw_account_laws.specs.Accounts.{Account, GoesOnFrom, IsAccount, Written, known_by, known_of}
use Rattle.sw_account_laws.specs.Laws.{AccountsAreSound, HidesByName}
use Rattle.sw_account_laws.specs.Sound.{AreAskedFor, AreRecordedOrHeld, IsSound, RangesLeadToShards, RecordsAreNamed, RowsAreOfWrites, StandForWrites}
use Rattle.sw_account_laws.specs.Sound.{WritesAreNamed}

-- ---- states and writes

-- writes joined one by one
joins : (ws vs : List Write) → fold joined (state_of ws) vs ≡ state_of (ws ++ vs)
joins ws [] = ap state_of (sym (append-nil ws))
joins ws (v ∷ vs) =
    ap (λ (s : State). fold joined s vs) (joins_one_more ws v) ∙ (joins (ws ++ v ∷ []) vs ∙ ap state_of (append_assoc ws (v ∷ []) vs))

-- one put or deletion is one write
one-write : (time u : ℕ) (kind k : Kind) (base : Base) → base_at time kind ≡ Some base → base_at u k ≡ Some base
    → ◌≡◌ {A = Write} (record { time = time; kind = kind }) (record { time = u; kind = k })
one-write time u (kinds.Put content) (kinds.Put other) base is also =
    let same : bases.Put time content ≡ bases.Put u other = (let whole : Some (bases.Put time content) ≡ Some (bases.Put u other) = is ∙ sym also in cc) in
    let times : time ≡ u = cc in
    let contents : content ≡ other = cc in
    λ i. record { time = times i; kind = kinds.Put (contents i) }
one-write time u (kinds.Put content) kinds.Del base is also =
    let never : Some (bases.Put time content) ≡ Some (bases.Del u) = is ∙ sym also in cc
one-write time u (kinds.Put content) (kinds.Meta heads) base is also = cc
one-write time u kinds.Del (kinds.Put other) base is also =
    let never : Some (bases.Del time) ≡ Some (bases.Put u other) = is ∙ sym also in cc
one-write time u kinds.Del kinds.Del base is also =
    let whole : Some (bases.Del time) ≡ Some (bases.Del u) = is ∙ sym also in
    let times : time ≡ u = cc in
    λ i. record { time = times i; kind = kinds.Del }
one-write time u kinds.Del (kinds.Meta heads) base is also = cc
one-write time u (kinds.Meta heads) k base is also = cc

module _ (c : Cluster) (root : Place → Place) (m : Machine) (account : Account) (lines : List RunLine) (after : Machine) (later : Account)
    (hides : HidesByName c) (roots : AreRoots root) (sound : IsSound c root m account) (run : RunsSoundly c [] m lines after)
    (rooted : AreRooted c root m lines after (runs_of c [] m lines after run))
    (goes : GoesOnFrom c.nodes m lines after (runs_of c [] m lines after run) account later) (texts : AreTexts after) where
  abbrev steps : Runs c.nodes m lines after
  steps = runs_of c [] m lines after run

  honest : AreHonest c.nodes.secrets c.replicas [] lines
  honest = are-honest c lines [] m after run

  -- nothing of the run is on its way
  abbrev rest : Machine
  rest = record after { sent = [] }

  more : HashesGoOn c.nodes m after
  more = hashes-stand c.nodes m lines after steps

  known-later : IsAccount after later
  known-later = account-after c.nodes lines m after steps account later sound.known goes

  texts-before : AreTexts m
  texts-before d n there =
      texts d n (subst (λ (xs : List (ℕ × KnownWrite)). Contains xs (d, n)) (sym more.known) (Contains-append_left m.objects.known more.more (d, n) there))

  -- ---- what each law has of the run

  begun-so : IsBegun c.nodes c.replicas m
  begun-so = record {
    tell = sound.containers_tell;
    ordered = sound.ordered;
    listed = sound.listed;
    points = sound.points;
    no_messages = sound.quiet;
  }

  anew : IsBegun c.nodes c.replicas rest
  anew = runs-begin-anew c.nodes c.nodes.secrets c.replicas m lines after begun-so steps honest

  tiled : IsTiled after
  tiled = stay-tiled c.nodes c.nodes.secrets c.replicas lines [] m after sound.containers_tell before steps honest
    where
      have : (o : Option Tables) (d : ℕ) (p : Place) → m.containers.half.holds d p ≡ o → IsTiledList (list_of o)
      have None d p is = tt
      have (Some t) d p is = by t.ranges refl
        where
          by : (ranges : Option (List Range)) → t.ranges ≡ ranges → IsTiledList ranges
          by None split = tt
          by (Some ranges) split = (sound.ranges d p t ranges is split).1

      before : IsTiled m
      before = record {
        have = λ d p. have (m.containers.half.holds d p) d p refl;
        sent = subst AllBringTiled (sym sound.quiet) (λ message there. absurd (none-among message there));
      }

  origins : HasOrigins c root lines after
  origins =
      origins-end c root roots lines [] m (starting.ledger c root m account sound texts-before) after
      (starts c root m account sound texts-before hides roots) before run rooted
    where
      lists : (o : Option Tables) (d : ℕ) (p : Place) → m.containers.half.holds d p ≡ o → AreListed (IsOfOne root p) (list_of o)
      lists None d p is = tt
      lists (Some t) d p is = by t.ranges refl
        where
          by : (ranges : Option (List Range)) → t.ranges ≡ ranges → AreListed (IsOfOne root p) ranges
          by None split = tt
          by (Some ranges) split = (sound.ranges d p t ranges is split).0

      row : (d : ℕ) (p : Place) (n : Numbered) → Contains (rows_of (m.containers.half.holds d p)).list n → IsRootedRow c root m p n.row
      row d p n there = by (cases_Bool (is_hidden (root p)))
        where
          by : (is_hidden (root p) ≡ true) ⊎ (is_hidden (root p) ≡ false) → IsRootedRow c root m p n.row
          by (inl hidden) = inl hidden
          by (inr plain) = inr (sound.rows d p plain n there)

      before : HasOrigins c root [] m
      before = record {
        have = record {
          rows = λ d p.
              All-weaker (λ (n : Numbered). Contains (rows_of (m.containers.half.holds d p)).list n) (λ (n : Numbered). IsRootedRow c root m p n.row)
              (row d p) (rows_of (m.containers.half.holds d p)).list (All-contains_itself (rows_of (m.containers.half.holds d p)).list);
          lists = λ d p. lists (m.containers.half.holds d p) d p refl;
        };
        sent = subst (λ (xs : List Message). AllBringOfRoot c root m xs) (sym sound.quiet) (λ message there. absurd (none-among message there));
        say = λ line there. absurd (none-among line there);
      }

  listed-end : listing.IsAtEnd c after
  listed-end =
      listing.ends c lines [] m (starting.ledger c root m account sound texts-before) after (starts c root m account sound texts-before hides roots) run

  held-end : IsAtEnd c (Kept c root m account sound texts-before) lines after later
  held-end =
      ends c (Kept c root m account sound texts-before) lines [] m (starting.ledger c root m account sound texts-before)
      (starts c root m account sound texts-before hides roots) (remembering.ledger c root m account sound texts-before)
      (remembers c root m account sound texts-before) account (all-asked c root m account sound texts-before) after run later goes

  -- what was kept before is held still
  holds-at-end : (d : ℕ) (p : Place) (row : Row) → IsTaken c (Kept c root m account sound texts-before) lines d p row
      → Holds (ground_of c.replicas) (ledger_of after) d p row
  holds-at-end d p row (inl is) = acknowledged-is-held c.nodes c.nodes.secrets c.replicas m lines after begun-so steps honest d p row is
  holds-at-end d p row (inr kept) =
      held-stays-held c.nodes c.nodes.secrets c.replicas m [] m lines after begun-so refl tt steps honest d p row kept

  -- ---- objects

  still-stand : StandForWrites c rest later
  still-stand d h =
      (more.hash d h (sound.objects_tell d h)).joins
      ∙ (ap (λ (s : State). fold joined s (writes_among more.more d h)) (sound.stand d h)
      ∙ (joins (writes_among (known_by account) d h) (writes_among more.more d h)
      ∙ ap state_of
      (sym (among-append (known_by account) more.more d h)
      ∙ ap (λ (xs : List (ℕ × KnownWrite)). writes_among xs d h)
      (ap (λ (xs : List (ℕ × KnownWrite)). xs ++ more.more) (sym sound.known) ∙ (sym more.known ∙ known-later)))))

  there-known : (w : Written) → Contains later w → Contains after.objects.known (known_of w)
  there-known w there = subst (λ (xs : List (ℕ × KnownWrite)). Contains xs (known_of w)) (sym known-later) (known-there later w there)

  still-named : WritesAreNamed c rest later
  still-named w there =
      listed-end.accounts.objects.known.named w.device (record { name = w.name; write = w.write }) (there-known w there)

  still-filed : RecordsAreNamed c rest later
  still-filed d key filed is = (listed-end.accounts.objects.fits d key.hash).named key filed refl is

  still-asked : AreAskedFor c rest later
  still-asked w base there is =
      by (held-end.accounts.clients.origin (reach w.device w.name.hash base)
      (held-end.accounts.objects.known.reaches w.device (record { name = w.name; write = w.write }) base (there-known w there) is))
    where
      by : WasAsked held-end.ledger (reach w.device w.name.hash base)
          → (first : Written) × Contains later first × (first.asked ≡ true) × (first.name ≡ w.name) × (first.write ≡ w.write)
      by o = from (held-end.asked.comes o.0 o.1)
        where
          from : (n : KnownWrite) × Contains (asked_by later) (o.0.device, n) × (n.name.hash ≡ o.0.hash)
              × (base_at n.write.time n.write.kind ≡ Some o.0.base)
              → (first : Written) × Contains later first × (first.asked ≡ true) × (first.name ≡ w.name) × (first.write ≡ w.write)
          from k = of (asked-written later o.0.device k.0 k.1)
            where
              of : IsAskedFor later o.0.device k.0
                  → (first : Written) × Contains later first × (first.asked ≡ true) × (first.name ≡ w.name) × (first.write ≡ w.write)
              of f = (
                f.w,
                f.there,
                f.asked,
                one-name c f.w.name w.name (still-named f.w f.there) (still-named w there)
                    (ap (λ (x : ℕ × KnownWrite). x.1.name.hash) f.is ∙ (k.2 ∙ o.2)),
                one-write f.w.write.time w.write.time f.w.write.kind w.write.kind base
                    (ap (λ (x : ℕ × KnownWrite). base_at x.1.write.time x.1.write.kind) f.is ∙ (k.3 ∙ ap (λ (b : Base). Some b) o.3)) is,
              )

  still-recorded : AreRecordedOrHeld c rest later
  still-recorded w base there asked is place home device ring row row_is =
      by (asked-waits c (Kept c root m account sound texts-before) lines after held-end.ledger held-end.accounts holds-at-end w.name (still-named w there)
      base w.device
      (held-end.asked.reaches w.device (record { name = w.name; write = w.write }) base (asked-there later w there asked) is) place home device ring row
      row_is)
    where
      by : WaitsAt after w.device w.name base device ⊎ Holds (ground_of c.replicas) (ledger_of after) device place row
          → WaitsAt rest w.device w.name base device ⊎ Holds (ground_of c.replicas) (ledger_of rest) device place row
      by (inl waits) =
          inl (record { filed = waits.filed; stands = waits.stands; name_is = waits.name_is; unmarked = waits.unmarked })
      by (inr holds) = inr holds

  -- ---- containers

  have : AreOfRoots c root rest after.containers
  have = have-still c root after rest (λ d n there. there) after.containers origins.have

  still-rows : RowsAreOfWrites c root rest
  still-rows d p plain n there =
      by (All-contains (λ (x : Numbered). IsRootedRow c root rest p x.row) (rows_of (after.containers.half.holds d p)).list n (have.rows d p) there)
    where
      by : IsRootedRow c root rest p n.row → IsOfWrite c rest (root p) n.row
      by (inl hidden) = absurd (true≢false (sym hidden ∙ plain))
      by (inr is) = is

  still-ranges : RangesLeadToShards c root rest
  still-ranges d p t ranges there split =
      (subst (λ (o : Option (List Range)). AreListed (IsOfOne root p) o) list_is (have.lists d p), subst IsTiledList list_is (tiled.have d p))
    where
      list_is : list_of (after.containers.half.holds d p) ≡ Some ranges
      list_is = ap list_of there ∙ split

  pub still-sound : IsSound c root rest later
  still-sound = record {
    known = known-later;
    quiet = refl;
    objects_tell = listed-end.accounts.objects.tell;
    containers_tell = anew.tell;
    stand = still-stand;
    named = still-named;
    filed = still-filed;
    origin = still-asked;
    recorded = still-recorded;
    rows = still-rows;
    ranges = still-ranges;
    points = anew.points;
    ordered = anew.ordered;
    listed = anew.listed;
  }

pub accounts-are-sound : AccountsAreSound
accounts-are-sound c root m account lines after later hides roots sound run rooted goes texts =
    still-sound c root m account lines after later hides roots sound run rooted goes texts
