use Rattle.std.proofs.Common.{◌≡◌, ◌*◌}
use Rattle.std.specs.List.{flat_map, range_with_len}
use Rattle.sw_jobs.specs.Draws.{state_after}
use Rattle.sw_jobs.specs.Generated.{numbered, turn}
use Rattle.sw_jobs.proofs.generating.generate.Given as goal

abbrev pub invariant-loop-number : goal.invariant-loop-number
invariant-loop-number l = record {
  draws : l.state ≡ state_after l.seed (5 * l.number);
  jobs : l.jobs.items ≡ numbered (flat_map (turn l.ring l.seed l.requests) (range_with_len 0 l.number));
}
