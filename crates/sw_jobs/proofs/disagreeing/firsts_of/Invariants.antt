use Rattle.std.proofs.Common.{take}
use Rattle.sw_jobs.specs.Firsts.{KeepsFirsts}
use Rattle.sw_jobs.proofs.disagreeing.firsts_of.Given as goal

-- the first ones of the jobs so far
abbrev pub invariant-loop-job : goal.invariant-loop-job
invariant-loop-job l = KeepsFirsts (take l.job-index l.jobs) l.firsts
