use Rattle.std.proofs.Common.{take}
use Rattle.sw_jobs.specs.Firsts.{IsLeast}
use Rattle.sw_jobs.proofs.disagreeing.first_pair.Given as goal

-- the least pair of the jobs so far
abbrev pub invariant-loop-job : goal.invariant-loop-job
invariant-loop-job l = IsLeast l.firsts (take l.job-index l.jobs) l.found
