use Rattle.std.proofs.Common.{◌≡◌, ℕ, ◌<◌, ◌^◌, List, [], ◌∙◌, length, sym, subst}
use Rattle.sw_shard_range.specs.Laws.{AreTiled}
use Rattle.sw_shard_range.specs.declared.range.Range.{Range}
use Rattle.sw_shard_range.proofs.States.{fault-with, length-with}
use Rattle.sw_shard_range.specs.States.{with_state}
use Rattle.sw_shard_range.proofs.ranges.Ranges.with_state.Goals as goal

pub invariant_of-result : goal.invariant_of-result
invariant_of-result c =
    let l = c.self.inside.list in
    let same : c.into.result ≡ with_state c.args.state c.args.index l = rw c.into-list.ensures at (c.into.ensures ∙ c.put_in_state.ensures) in
    rw same (
      fault-with c.args.state c.args.index [] 0 l ∙ c.self.invariant.0,
      subst (λ (n : ℕ). n < 2 ^ 32) (sym (length-with c.args.state c.args.index l)) c.self.invariant.1,
    )
