-- A container of a machine that is sound with its account can be listed exactly, where no record of it waits; and so after a run.
use Rattle.std.proofs.Common.{◌≡◌, ℕ, true, false, List, [], Some, ◌⊎◌, inl, inr, sym, ◌∙◌, ap, subst}
use Rattle.std.proofs.lemmas.List.Elements.{All-weaker}
use Rattle.std.specs.List.{All, Contains}
use Rattle.sw_across_laws.proofs.Across.{listings-exact}
use Rattle.sw_across_laws.proofs.Unsplit.{shards-unsplit}
use Rattle.sw_across_laws.specs.Laws.{IsDoorTo}
use Rattle.sw_across_laws.specs.Showable.{AreNamed, IsShowable}
use Rattle.sw_container_steps.specs.Entries.{rows_of}
use Rattle.sw_exact_laws.specs.Laws.{AreTexts}
use Rattle.sw_hashpath.specs.Places.{IsPlaceOf}
use Rattle.sw_hashpath.specs.declared.name.Name.{Name}
use Rattle.sw_hashpath.specs.declared.place.Place.{Place}
use Rattle.sw_held_laws.proofs.Ending.{none-waits}
use Rattle.sw_held_laws.specs.Laws.{WaitsAt}
use Rattle.sw_keeper.specs.declared.tables.Tables.{Tables}
use Rattle.sw_listing_laws.specs.Laws.{AreLiveRows, IsLive, IsSettled}
use Rattle.sw_listing_laws.specs.Plain.{Cluster, IsOfWrite, RunsSoundly}
use Rattle.sw_machine.specs.Machine.{KnownWrite, Machine, RunLine}
use Rattle.sw_object_steps.specs.BaseRows.{IsRowOf}
use Rattle.sw_origin_laws.specs.Roots.{AreRooted, AreRoots, runs_of}
use Rattle.sw_peer.specs.Sights.{Sight}
use Rattle.sw_ring.specs.declared.ring.Ring.{Ring}
use Rattle.sw_point_laws.specs.Laws.{ground_of, ledger_of}
use Rattle.sw_rows.specs.declared.numbered.Numbered.{Numbered}
use Rattle.sw_rows.specs.declared.row.Row.{Row}
use Rattle.sw_shard_laws.specs.Ledger.{Holds}
use Rattle.sw_shard_range.specs.Laws.{AreTiled}
use Rattle.sw_shard_range.specs.Names.{is_hidden}
use Rattle.sw_shard_range.specs.declared.range.Range.{Range}
use Rattle.sw_state.specs.Bases.{base_at}
use Rattle.sw_state.specs.declared.base.Base.{Base}
use Rattle.sw_state.specs.declared.write.Write.{Write}
use Rattle.sw_account_laws.proofs.Among.{IsWritten, known-written}
use Rattle.sw_account_laws.proofs.Ending.{still-sound}
use Rattle.sw_account_laws.proofs.Going.{keeps-accounts}
use Rattle.sw_account_laws.proofs.Starting.{named-known}
use Rattle.sw_account_laws.specs.Accounts.{Account, Written}
use Rattle.sw_account_laws.specs.Laws.{HidesByName, ListingsOfAccountsAreExact}
use Rattle.sw_account_laws.specs.Sound.{IsSound}

module _ (c : Cluster) (root : Place → Place) (m : Machine) (account : Account) (roots : AreRoots root) (sound : IsSound c root m account)
    (texts : AreTexts m) where
  named : AreNamed c m
  named d n there = (named-known c root m account sound texts d n there, texts d n there)

  module _ (place : Place) (plain : is_hidden place ≡ false) (settled : IsSettled c m place) where
    own : root place ≡ place
    own = roots.own place plain

    -- each put and deletion was asked for somewhere, where no record of it waits
    held : (device : ℕ) → Contains (c.replicas place) device → (d : ℕ) (n : KnownWrite) (base : Base) → Contains m.objects.known (d, n)
        → IsPlaceOf c.nodes.secrets n.name place → base_at n.write.time n.write.kind ≡ Some base → (row : Row) → IsRowOf n.name.object base row
        → Holds (ground_of c.replicas) (ledger_of m) device place row
    held device ring d n base known home base_is row row_is =
        of (known-written account d n (subst (λ (xs : List (ℕ × KnownWrite)). Contains xs (d, n)) sound.known known))
      where
        by : (at : ℕ) (name : Name) → IsPlaceOf c.nodes.secrets name place
            → WaitsAt m at name base device ⊎ Holds (ground_of c.replicas) (ledger_of m) device place row
            → Holds (ground_of c.replicas) (ledger_of m) device place row
        by at name home (inl waits) = absurd (none-waits c m place settled at name base device home ring waits)
        by at name home (inr holds) = holds

        of : IsWritten account d n → Holds (ground_of c.replicas) (ledger_of m) device place row
        of is =
            by first.0.device first.0.name home_is
            (sound.recorded first.0 base first.1 first.2 (ap (λ (x : Write). base_at x.time x.kind) first.4 ∙ base_so) place home_is device ring row
            (subst (λ (x : Name). IsRowOf x.object base row) (sym name_is) row_is))
          where
            base_so : base_at is.w.write.time is.w.write.kind ≡ Some base
            base_so = ap (λ (x : ℕ × KnownWrite). base_at x.1.write.time x.1.write.kind) is.is ∙ base_is

            first : (first : Written) × Contains account first × (first.asked ≡ true) × (first.name ≡ is.w.name) × (first.write ≡ is.w.write)
            first = sound.origin is.w base is.there base_so

            name_is : first.0.name ≡ n.name
            name_is = first.3 ∙ ap (λ (x : ℕ × KnownWrite). x.1.name) is.is

            home_is : IsPlaceOf c.nodes.secrets first.0.name place
            home_is = subst (λ (x : Name). IsPlaceOf c.nodes.secrets x place) (sym name_is) home

    rows : (device : ℕ) (at : Place) → root at ≡ place → (n : Numbered) → Contains (rows_of (m.containers.half.holds device at)).list n
        → IsOfWrite c m place n.row
    rows device at of n there =
        subst (λ (p : Place). IsOfWrite c m p n.row) of (sound.rows device at (ap is_hidden of ∙ plain) n there)

    shards : (device : ℕ) (t : Tables) (ranges : List Range) → m.containers.half.holds device place ≡ Some t → t.ranges ≡ Some ranges
        → All (λ (r : Range). root r.shard ≡ place) ranges × AreTiled ranges
    shards device t ranges there split = (
      All-weaker (λ (r : Range). root r.shard ≡ root place) (λ (r : Range). root r.shard ≡ place)
          (λ (r : Range). λ (one : root r.shard ≡ root place). one ∙ own) ranges (sound.ranges device place t ranges there split).0,
      (sound.ranges device place t ranges there split).1,
    )

    pub showable : IsShowable c root m place
    showable = record {
      held = held;
      rows = rows;
      own = own;
      shards = shards;
      unsplit = λ device t ranges there split. shards-unsplit c.replicas m sound.points place device t ranges there split;
      listed = λ device at of. sound.listed device at;
    }

-- ---- after a run

-- What is said of a machine is said of it once no message is on its way, and the other way round
module _ (c : Cluster) (m : Machine) where
  abbrev pub rest : Machine
  rest = record m { sent = [] }

  live-there : (place : Place) (object : List ℕ) (base : Base) → IsLive c rest place object base → IsLive c m place object base
  live-there place object base live = record {
    device = live.device;
    by = live.by;
    known = live.known;
    place_is = live.place_is;
    object_is = live.object_is;
    base_is = live.base_is;
    is_put = live.is_put;
    greatest = live.greatest;
  }

  live-here : (place : Place) (object : List ℕ) (base : Base) → IsLive c m place object base → IsLive c rest place object base
  live-here place object base live = record {
    device = live.device;
    by = live.by;
    known = live.known;
    place_is = live.place_is;
    object_is = live.object_is;
    base_is = live.base_is;
    is_put = live.is_put;
    greatest = live.greatest;
  }

  pub rows-here : (place : Place) (rows : List Numbered) → AreLiveRows c m place rows → AreLiveRows c rest place rows
  rows-here place rows live = record {
    once = live.once;
    sound = λ n there. let is = live.sound n there in (is.0, live-here place n.row.name is.0 is.1, is.2);
    whole = λ object base is. live.whole object base (live-there place object base is);
  }

  pub door-here : (ring : Ring) (s : Sight) → IsDoorTo c m ring s → IsDoorTo c rest ring s
  door-here ring s door = record {
    nodes = door.nodes;
    keepers = door.keepers;
    tell = door.tell;
    holds = door.holds;
  }

-- A container of which no record waits can be listed exactly then, once no message of the run is on its way
pub showable-after : (c : Cluster) (root : Place → Place) (m : Machine) (account : Account) (lines : List RunLine) (after : Machine) → HidesByName c
    → AreRoots root → IsSound c root m account → (run : RunsSoundly c [] m lines after) → AreRooted c root m lines after (runs_of c [] m lines after run)
    → AreTexts after → (place : Place) → is_hidden place ≡ false → IsSettled c after place
    → IsShowable c root (rest c after) place × AreNamed c (rest c after)
showable-after c root m account lines after hides roots sound run rooted texts place plain settled =
    let kept = keeps-accounts c.nodes m lines after (runs_of c [] m lines after run) account sound.known in
    let end = still-sound c root m account lines after kept.0 hides roots sound run rooted kept.2 texts in
    (showable c root (rest c after) kept.0 roots end texts place plain settled, named c root (rest c after) kept.0 roots end texts)

pub listings-of-accounts-are-exact : ListingsOfAccountsAreExact
listings-of-accounts-are-exact c root m account lines after hides roots sound run rooted agree texts place plain settled ring old door device at replica has
    query entries new alone across rows live =
    let can = showable-after c root m account lines after hides roots sound run rooted texts place plain settled in
    listings-exact c root (rest c after) place can.0 can.1 agree ring old (door-here c after ring old door) device at replica has query entries new alone across
    rows (rows-here c after place rows live)
