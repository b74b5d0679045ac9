use Rattle.std.proofs.Common.{◌≡◌, ◌<◌, ◌≤◌, length, sym, ◌∙◌, arith}
use Rattle.sw_shard_range.proofs.States.{all-of, none-yet, one-more}
use Rattle.sw_shard_range.proofs.ranges.put_all_in_state.Goals as goal

pub loop-index-init : goal.loop-index-init
loop-index-init c = sym (none-yet c.args.state c.args.list.now.items)

pub loop-index-preserved : goal.loop-index-preserved
loop-index-preserved c =
    let within : c.loop-index.index < length c.args.list.now.items = rw (c.len-index-end.ensures ∙ c.args.list.now.ok.0) at c.loop-index-test.true in
    one-more c.args.state c.loop-index.index c.args.list.now.items c.loop-index.list.items c.index_mut.result.now _ within c.loop-index.invariant
    c.index_mut.ensures.value

pub returns : goal.returns
returns c =
    let all : length c.args.list.now.items ≤ c.loop-index.index = rw (c.len-index-end.ensures ∙ c.args.list.now.ok.0) at c.loop-index-test.false in
    c.loop-index.invariant ∙ all-of c.args.state c.loop-index.index c.args.list.now.items all
