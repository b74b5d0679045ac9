use Rattle.std.proofs.Common.{◌≡◌, drop}
use Rattle.sw_container_steps.specs.Serving.{first_served}
use Rattle.sw_container_steps.proofs.serving.first_served.Given as goal

-- no row so far has a name that is left to a shard
abbrev pub invariant-loop-row : goal.invariant-loop-row
invariant-loop-row l = first_served l.tables (drop l.row-index l.rows) ≡ first_served l.tables l.rows
