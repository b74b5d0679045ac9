use Rattle.std.proofs.Common.{◌≡◌, ◌++◌, map}
use Rattle.sw_hashdir.proofs.paths.Paths.into_list.Given as goal

-- the paths so far, and then those to come
abbrev pub invariant-loop-path : goal.invariant-loop-path
invariant-loop-path l = l.list.items ++ map (λ k. k.items) l.path-iterator ≡ l.fn.self
