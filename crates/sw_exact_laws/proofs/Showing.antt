-- The law: after such a run a container that is settled can be listed exactly.
use Rattle.std.proofs.Common.{◌≡◌, ℕ, false, List, [], Option, Some, ◌∙◌, ap, subst}
use Rattle.std.proofs.lemmas.List.Elements.{All-weaker}
use Rattle.std.specs.List.{All, Contains}
use Rattle.sw_across_laws.proofs.Across.{listings-exact}
use Rattle.sw_across_laws.proofs.Unsplit.{shards-unsplit}
use Rattle.sw_across_laws.specs.Showable.{AreNamed, IsShowable}
use Rattle.sw_container_steps.specs.Entries.{rows_of}
use Rattle.sw_hashpath.specs.declared.place.Place.{Place}
use Rattle.sw_held_laws.proofs.Ending.{settled-hold}
use Rattle.sw_keeper.specs.declared.tables.Tables.{Tables}
use Rattle.sw_listing_laws.proofs.Running as listings
use Rattle.sw_listing_laws.proofs.Showing.{begins}
use Rattle.sw_listing_laws.specs.Laws.{IsSettled}
use Rattle.sw_listing_laws.specs.Plain.{Cluster, IsOfWrite, RunsSoundly}
use Rattle.sw_machine.specs.Honest.{AreHonest}
use Rattle.sw_machine.specs.Machine.{Machine, RunLine, Runs}
use Rattle.sw_origin_laws.proofs.Lists.{AreListed, list_of}
use Rattle.sw_origin_laws.proofs.Origins.{HasOrigins, IsOfOne}
use Rattle.sw_origin_laws.proofs.Running.{begun, ends, rows-come-from-writes}
use Rattle.sw_origin_laws.specs.Laws.{IsBare}
use Rattle.sw_origin_laws.specs.Roots.{AreRooted, AreRoots, runs_of}
use Rattle.sw_pending_laws.specs.Laws as ledgers
use Rattle.sw_point_laws.proofs.Ending.{points-hold-over-runs, runs-begin, runs-begin-anew}
use Rattle.sw_point_laws.specs.Laws.{IsBegun}
use Rattle.sw_rows.specs.declared.numbered.Numbered.{Numbered}
use Rattle.sw_shard_range.specs.Laws.{AreTiled}
use Rattle.sw_shard_range.specs.Names.{is_hidden}
use Rattle.sw_shard_range.specs.declared.range.Range.{Range}
use Rattle.sw_exact_laws.proofs.Running.{are-honest, nothing-tiled, stay-tiled}
use Rattle.sw_exact_laws.proofs.Standing.{IsTiled}
use Rattle.sw_exact_laws.proofs.Tiling.{IsTiledList}
use Rattle.sw_exact_laws.specs.Laws.{AreTexts, ListingsOfRunsAreExact}

module _ (c : Cluster) (root : Place → Place) (m : Machine) (lines : List RunLine) (after : Machine) (roots : AreRoots root) (bare : IsBare c m)
    (run : RunsSoundly c [] m lines after) where
  abbrev steps : Runs c.nodes m lines after
  steps = runs_of c [] m lines after run

  honest : AreHonest c.nodes.secrets c.replicas [] lines
  honest = are-honest c lines [] m after run

  begun-so : IsBegun c.nodes c.replicas m
  begun-so = runs-begin c.nodes c.replicas m (record { tell = bare.new.containers_tell; nothing = bare.none; no_messages = bare.new.no_messages })

  tiled : IsTiled after
  tiled =
      stay-tiled c.nodes c.nodes.secrets c.replicas lines [] m after bare.new.containers_tell (nothing-tiled m bare.none bare.new.no_messages) steps honest

  pub named : AreTexts after → AreNamed c after
  named texts d n known =
      ((listings.ends c lines [] m ledgers.begun after (begins c m bare.new) run).accounts.objects.known.named d n known, texts d n known)

  module _ (rooted : AreRooted c root m lines after steps) (place : Place) (plain : is_hidden place ≡ false) where
    origins : HasOrigins c root lines after
    origins = ends c root roots lines [] m ledgers.begun after (begins c m bare.new) (begun c root m bare) run rooted

    rows : (device : ℕ) (at : Place) → root at ≡ place → (n : Numbered) → Contains (rows_of (after.containers.half.holds device at)).list n
        → IsOfWrite c after place n.row
    rows device at of n there =
        subst (λ (p : Place). IsOfWrite c after p n.row) of
        (rows-come-from-writes c root m lines after roots bare run rooted device at (ap is_hidden of ∙ plain) n there)

    -- the shards of a list are of the container itself
    shards : (device : ℕ) (t : Tables) (ranges : List Range) → after.containers.half.holds device place ≡ Some t → t.ranges ≡ Some ranges
        → All (λ (r : Range). root r.shard ≡ place) ranges × AreTiled ranges
    shards device t ranges there split = (
      All-weaker (λ (r : Range). IsOfOne root place r.shard) (λ (r : Range). root r.shard ≡ place)
          (λ (r : Range). λ (one : IsOfOne root place r.shard). one ∙ roots.own place plain) ranges
          (subst (λ (o : Option (List Range)). AreListed (IsOfOne root place) o) list_is (origins.have.lists device place)),
      subst IsTiledList list_is (tiled.have device place),
    )
      where
        list_is : list_of (after.containers.half.holds device place) ≡ Some ranges
        list_is = ap list_of there ∙ split

    pub showable : IsSettled c after place → IsShowable c root after place
    showable settled = record {
      held = settled-hold c m lines after (record { new = bare.new; none = bare.none }) run place settled;
      rows = rows;
      own = roots.own place plain;
      shards = shards;
      unsplit = λ device t ranges there split.
          shards-unsplit c.replicas after (points-hold-over-runs c.nodes c.nodes.secrets c.replicas m lines after begun-so steps honest) place device t ranges
          there split;
      listed = λ device at of. (runs-begin-anew c.nodes c.nodes.secrets c.replicas m lines after begun-so steps honest).listed device at;
    }

pub listings-of-runs-exact : ListingsOfRunsAreExact
listings-of-runs-exact c root m lines after roots bare run rooted agree texts place plain settled ring old door device at replica has query entries new alone
    across rows live =
    listings-exact c root after place (showable c root m lines after roots bare run rooted place plain settled)
    (named c root m lines after roots bare run texts) agree ring old door device at replica has query entries new alone across rows live
