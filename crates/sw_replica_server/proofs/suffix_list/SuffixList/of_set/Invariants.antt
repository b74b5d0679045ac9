use Rattle.std.proofs.Common.{◌≡◌, ◌++◌}
use Rattle.sw_replica_server.proofs.suffix_list.SuffixList.of_set.Given as goal

-- the suffixes so far, and then those to come
abbrev pub invariant-loop-suffix : goal.invariant-loop-suffix
invariant-loop-suffix l = l.vec.items ++ l.suffix-iterator ≡ l.fn.set.keys
