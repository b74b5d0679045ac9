use Rattle.std.proofs.Common.{rules, Bool, sym}
use Rattle.std.specs.Ordering.{is_lt}
use Rattle.std.proofs.lemmas.List.Sorted.{IsPartitionPoint-from_clause}
use Rattle.sw_keeper.specs.Places.{place_cmp}
use Rattle.sw_keeper.specs.declared.shelf.Shelf.{Shelf}
use Rattle.sw_keeper.proofs.Searching.{prefix_at, shelves_partitioned}
use Rattle.sw_keeper.proofs.shelves.place_of.Goals as goal

pub returns-clause-place : goal.returns-clause-place
returns-clause-place c =
    let p : Shelf → Bool = λ s. is_lt (place_cmp s.0 c.args.place.now) in
    sym (prefix_at p c.args.shelves.now c.partition_point.result c.partition_point.ensures.bound
    (IsPartitionPoint-from_clause p c.args.shelves.now c.partition_point.result c.partition_point.ensures.partitioned
    (shelves_partitioned c.args.shelves.now c.args.place.now c.requires) (λ a r q k. search rules)))
