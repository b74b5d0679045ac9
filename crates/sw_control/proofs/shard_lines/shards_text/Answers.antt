use Rattle.sw_control.proofs.ToldShards.{shards_text-more}
use Rattle.sw_control.proofs.shard_lines.shards_text.Goals as goal

pub loop-index-preserved : goal.loop-index-preserved
loop-index-preserved c =
    let more = shards_text-more c.args.ranges.now c.loop-index.index c.index-ranges-index.result c.loop-index-test.true c.index-ranges-index.is in
    cc (more, c.in_ok-add_range.ensures, c.loop-index.invariant)
