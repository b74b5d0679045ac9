-- The bounds so far, and those among the names that are left, are those of all names.
use Rattle.std.proofs.Common.{◌≡◌, ◌<◌, ◌≤◌, ◌++◌, length, vec_len, IsSome}
use Rattle.std.specs.Option.{option_copied}
use Rattle.sw_shard_range.specs.Bounds.{every, live_names}
use Rattle.sw_shard_range.proofs.Cutting.{waiting}
use Rattle.sw_shard_range.proofs.finding.find.Given as goal

abbrev pub invariant-loop-next : goal.invariant-loop-next
invariant-loop-next l = record {
  told : l.bounds.items ++ every l.per_shard l.come (waiting (option_copied l.next) l.left) ≡ every l.per_shard 0 (live_names l.rows.list);
  fits : vec_len l.bounds ≤ 4294967294;
  counts : IsSome l.next → l.come < l.per_shard;
}

abbrev pub decreases-loop-next : goal.decreases-loop-next
decreases-loop-next l = length (waiting (option_copied l.next) l.left)
