use Rattle.std.proofs.Common.{◌≡◌, take}
use Rattle.sw_control.specs.ShardsText.{shards_text}
use Rattle.sw_control.proofs.shard_lines.shards_text.Given as goal

-- the text lines of the ranges before the index
abbrev pub invariant-loop-index : goal.invariant-loop-index
invariant-loop-index l = l.text.items ≡ shards_text (take l.index l.ranges)
