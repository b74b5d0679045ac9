use Rattle.std.proofs.Common.{◌≡◌}
use Rattle.sw_jobs.specs.Requests.{body_of}
use Rattle.sw_jobs.proofs.contents.body_of.Given as goal

-- the bytes so far
abbrev pub invariant-loop-at : goal.invariant-loop-at
invariant-loop-at l = l.body.items ≡ body_of l.request l.at
