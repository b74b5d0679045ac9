-- The text is none of the numbers before this one.
use Rattle.std.proofs.Common.{◌≡◌, ℕ, ◌<◌}
use Rattle.std.specs.Prelude.{decimal}
use Rattle.sw_container_server.proofs.fields.number_below.Given as goal

abbrev pub invariant-loop-number : goal.invariant-loop-number
invariant-loop-number l = (k : ℕ) → k < l.number → ¬ (l.text ≡ decimal k)
