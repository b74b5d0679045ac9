use Rattle.std.proofs.Common.{rules, ◌≡◌, ℕ, ◌<◌, Bool, [], length, sym, subst}
use Rattle.std.proofs.lemmas.List.Sorted.{IsPartitionPoint-from_clause}
use Rattle.sw_shard_range.specs.Names.{is_beyond}
use Rattle.sw_shard_range.specs.Ranges.{index_in}
use Rattle.sw_shard_range.specs.declared.range.Range.{Range}
use Rattle.sw_shard_range.proofs.Searching.{prefix-at}
use Rattle.sw_shard_range.proofs.Tiling.{in-a-range, partitioned}
use Rattle.sw_shard_range.proofs.ranges.place_of.Goals as goal

pub returns : goal.returns
returns c =
    let p : Range → Bool = λ r. is_beyond r.upper c.args.name.now in
    let place : index_in c.args.list.now c.args.name.now ≡ c.partition_point.result =
    prefix-at p c.args.list.now c.partition_point.result c.partition_point.ensures.bound
    (IsPartitionPoint-from_clause p c.args.list.now c.partition_point.result c.partition_point.ensures.partitioned
    (partitioned [] 0 c.args.list.now c.args.name.now c.requires) (λ a r q k. search rules)) in
    record {
      place = sym place;
      bound = subst (λ (n : ℕ). n < length c.args.list.now) place (in-a-range [] 0 c.args.list.now c.args.name.now c.requires);
    }
