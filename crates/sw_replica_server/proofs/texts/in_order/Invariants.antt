use Rattle.std.proofs.Common.{◌≡◌, [], take}
use Rattle.std.specs.List.{fold}
use Rattle.sw_replica_server.specs.ReplicaText.{with_line}
use Rattle.sw_replica_server.proofs.texts.in_order.Given as goal

-- the lines before the index
abbrev pub invariant-loop-line : goal.invariant-loop-line
invariant-loop-line l = l.ordered.entries ≡ fold with_line [] (take l.line-index l.lines)
