use Rattle.std.specs.Bool.{⊤}
use Rattle.sw_cases.proofs.run.stores.Given as goal

-- nothing is kept of the texts that were copied
abbrev pub invariant-loop-ring : goal.invariant-loop-ring
invariant-loop-ring l = ⊤
