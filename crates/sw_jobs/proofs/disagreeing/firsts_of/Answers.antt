use Rattle.std.proofs.Common.{◌≡◌, ◌+◌, List, [], ◌∷◌, ◌++◌, take, sym, ◌∙◌, ap, subst}
use Rattle.std.proofs.lemmas.List.{take_more}
use Rattle.sw_jobs.specs.Firsts.{KeepsFirsts, keeping}
use Rattle.sw_jobs.specs.declared.job.Job.{Job}
use Rattle.sw_jobs.proofs.FirstsKept.{keeps-none, keeps-step}
use Rattle.sw_jobs.proofs.disagreeing.firsts_of.Goals as goal

pub loop-job-init : goal.loop-job-init
loop-job-init c = rw c.new-firsts.ensures keeps-none

pub loop-job-preserved : goal.loop-job-preserved
loop-job-preserved c =
    let before = take c.loop-job.job-index c.args.jobs.now in
    let more : take (c.loop-job.job-index + 1) c.args.jobs.now ≡ before ++ c.job-item.result ∷ [] =
    take_more c.args.jobs.now c.loop-job.job-index c.job-item.result c.loop-job-test.true ∙ ap (λ (j : Job). before ++ j ∷ []) (sym c.job-item.is) in
    let keeps : KeepsFirsts (before ++ c.job-item.result ∷ []) (keeping c.loop-job.firsts c.job-item.result) =
    keeps-step before c.loop-job.firsts c.job-item.result c.loop-job.invariant in
    let with_more : KeepsFirsts (take (c.loop-job.job-index + 1) c.args.jobs.now) (keeping c.loop-job.firsts c.job-item.result) =
    subst (λ (jobs : List Job). KeepsFirsts jobs (keeping c.loop-job.firsts c.job-item.result)) (sym more) keeps in
    subst (KeepsFirsts (take (c.loop-job.job-index + 1) c.args.jobs.now)) (sym c.in_ok-keep.ensures.ok) with_more
