use Rattle.std.proofs.Common.{◌≡◌, ◌++◌, map}
use Rattle.sw_pending_dir.proofs.names.list_of.Given as goal

-- the names so far, and then those to come
abbrev pub invariant-loop-name : goal.invariant-loop-name
invariant-loop-name l = l.list.items ++ map (λ k. k.items) l.name-iterator ≡ map (λ k. k.items) l.fn.set.keys
