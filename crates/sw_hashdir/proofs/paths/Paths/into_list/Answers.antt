use Rattle.std.proofs.Common.{List, ℕ, subst, sym, ◌∙◌, rules}
use Rattle.std.specs.Cmp.Lexicographic.{slice_cmp}
use Rattle.std.specs.List.Sorted.{IsStrictlySortedBy}
use Rattle.std.specs.Ordering.{nat_cmp}
use Rattle.sw_hashdir.proofs.Walking.{ascending}
use Rattle.sw_hashdir.proofs.paths.Paths.into_list.Goals as goal

pub returns-clause-all : goal.returns-clause-all
returns-clause-all c = search rules

pub returns-clause-ordered : goal.returns-clause-ordered
returns-clause-ordered c =
    subst (λ (paths : List (List ℕ)). IsStrictlySortedBy (slice_cmp nat_cmp) paths) (c.self.view_is ∙ sym (returns-clause-all c))
    (ascending c.self.inside.set.keys c.len.ensures.ordered)
