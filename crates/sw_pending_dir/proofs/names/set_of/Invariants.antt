use Rattle.std.proofs.Common.{ℕ, List, ◌↔◌, map, take}
use Rattle.std.specs.List.{Contains}
use Rattle.sw_pending_dir.proofs.names.set_of.Given as goal

-- the set has the names so far
abbrev pub invariant-loop-name : goal.invariant-loop-name
invariant-loop-name l = (name : List ℕ) → Contains (map (λ k. k.items) l.set.keys) name ↔ Contains (take l.name-index l.names) name
