use Rattle.std.proofs.Common.{◌≡◌, ℕ, ◌<◌, ◌^◌, List, [], ◌∙◌, length, sym, subst}
use Rattle.sw_shard_range.specs.Laws.{AreTiled}
use Rattle.sw_shard_range.specs.declared.range.Range.{Range}
use Rattle.sw_shard_range.proofs.States.{fault-all, length-all}
use Rattle.sw_shard_range.specs.States.{all_in_state}
use Rattle.sw_shard_range.proofs.ranges.Ranges.all_in_state.Goals as goal

pub invariant_of-result : goal.invariant_of-result
invariant_of-result c =
    let l = c.self.inside.list in
    let same : c.into.result ≡ all_in_state c.args.state l = rw c.into-list.ensures at (c.into.ensures ∙ c.put_all_in_state.ensures) in
    rw same (fault-all c.args.state [] 0 l ∙ c.self.invariant.0, subst (λ (n : ℕ). n < 2 ^ 32) (sym (length-all c.args.state l)) c.self.invariant.1)
