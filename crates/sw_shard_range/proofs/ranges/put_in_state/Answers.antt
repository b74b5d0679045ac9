use Rattle.std.proofs.Common.{◌<◌, ◌≤◌, length, ◌∙◌}
use Rattle.sw_shard_range.proofs.States.{beyond-state, set-state}
use Rattle.sw_shard_range.proofs.ranges.put_in_state.Goals as goal

pub returns-then-index-len : goal.returns-then-index-len
returns-then-index-len c =
    let within : c.args.index < length c.args.list.now.items = rw (c.len.ensures ∙ c.args.list.now.ok.0) at c.if-index-len.true in
    set-state c.args.state c.args.index c.args.list.now.items c.index_mut.result.now _ within c.index_mut.ensures.value

pub returns-else-index-len : goal.returns-else-index-len
returns-else-index-len c =
    let all : length c.args.list.now.items ≤ c.args.index = rw (c.len.ensures ∙ c.args.list.now.ok.0) at c.if-index-len.false in
    beyond-state c.args.state c.args.index c.args.list.now.items all
