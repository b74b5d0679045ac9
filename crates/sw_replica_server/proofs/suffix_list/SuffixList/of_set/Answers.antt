use Rattle.std.proofs.Common.{◌≡◌, ◌<◌, ℕ, List, rules, subst, sym}
use Rattle.std.specs.List.{All}
use Rattle.std.specs.List.Sorted.{IsStrictlySortedBy}
use Rattle.std.specs.Ordering.{nat_cmp}
use Rattle.sw_replica_server.proofs.suffix_list.SuffixList.of_set.Goals as goal

-- all suffixes of the set were moved
pub invariant_of-result : goal.invariant_of-result
invariant_of-result c =
    let same : c.loop-suffix.vec.items ≡ c.args.set.keys = search rules in
    record {
      ascending = subst (λ (xs : List ℕ). IsStrictlySortedBy nat_cmp xs) (sym same) c.len.ensures.ordered;
      below = subst (λ (xs : List ℕ). All (λ suffix. suffix < 4096) xs) (sym same) c.requires;
    }

pub returns-clause-ascending : goal.returns-clause-ascending
returns-clause-ascending c =
    let same : c.loop-suffix.vec.items ≡ c.args.set.keys = search rules in
    subst (λ (xs : List ℕ). IsStrictlySortedBy nat_cmp xs) (sym same) c.len.ensures.ordered
