-- Where points hold, no shard is split itself.
use Rattle.std.proofs.Common.{◌≡◌, ℕ, zero, suc, true, arith, List, [], ◌∷◌, unwrap_or, Option, None, Some, refl, ap, subst}
use Rattle.std.specs.List.{All}
use Rattle.std.specs.Option.{option_map}
use Rattle.sw_container_steps.specs.Serving.{IsUnsplit}
use Rattle.sw_hashpath.specs.declared.place.Place.{Place}
use Rattle.sw_keeper.specs.declared.tables.Tables.{Tables}
use Rattle.sw_machine.specs.Machine.{Machine}
use Rattle.sw_point_laws.specs.Laws.{ground_of, ledger_of}
use Rattle.sw_shard_laws.specs.Changes.{CanSplit}
use Rattle.sw_shard_laws.specs.Ledger.{fresh, shard_in}
use Rattle.sw_shard_laws.specs.Sound.{IsFine, PointsHold}
use Rattle.sw_shard_range.specs.Names.{is_hidden}
use Rattle.sw_shard_range.specs.declared.range.Range.{Range}
use Rattle.sw_split_steps.specs.Tables.{table_of, tables_of, ways_of}
use Rattle.sw_across_laws.specs.Laws.{ShardsAreUnsplit}

-- what is true of the shard of each index is true of that of each range
each-shard : (P : Place → Type 0) (rs : List Range) → ((k : ℕ) (shard : Place) → shard_in (ways_of rs) k ≡ Some shard → P shard) → All (λ r. P r.shard) rs
each-shard P [] all k d within = absurd (omega (arith, within))
each-shard P (r ∷ rs) all zero d within = all 0 r.shard refl
each-shard P (r ∷ rs) all (suc k) d within = each-shard P rs (λ j shard is. all (suc j) shard is) k d (omega (arith, within))

module _ (replicas : Place → List ℕ) (m : Machine) (hold : PointsHold (ground_of replicas) (ledger_of m)) where
  -- a container that has ranges can be split
  can-split : (device : ℕ) (place : Place) (t : Tables) (ranges : List Range) → m.containers.half.holds device place ≡ Some t → t.ranges ≡ Some ranges
      → CanSplit (ground_of replicas) (ledger_of m) place (ways_of ranges)
  can-split device place t ranges there is = fine.lists (ways_of ranges) (ap (option_map ways_of) is)
    where
      fine : IsFine (ground_of replicas) (ledger_of m) place (table_of t)
      fine =
          subst (λ (o : Option Tables). IsFine (ground_of replicas) (ledger_of m) place (unwrap_or (tables_of o) fresh)) there (hold device place)

  -- so it isn't hidden
  hidden-unsplit : (device : ℕ) (shard : Place) → is_hidden shard ≡ true → IsUnsplit (m.containers.half.holds device shard)
  hidden-unsplit device shard hidden = by (m.containers.half.holds device shard) refl
    where
      at : (t : Tables) → m.containers.half.holds device shard ≡ Some t → (o : Option (List Range)) → t.ranges ≡ o → o ≡ None
      at t there None is = refl
      at t there (Some ranges) is = let plain = (can-split device shard t ranges there is).plain in cc

      by : (o : Option Tables) → m.containers.half.holds device shard ≡ o → IsUnsplit o
      by None there = tt
      by (Some t) there = at t there t.ranges refl

pub shards-unsplit : ShardsAreUnsplit
shards-unsplit replicas m hold place device t ranges there is =
    each-shard (λ shard. (other : ℕ) → IsUnsplit (m.containers.half.holds other shard)) ranges
    (λ k shard at other. hidden-unsplit replicas m hold other shard ((can-split replicas m hold device place t ranges there is).fit.hidden k shard at))
