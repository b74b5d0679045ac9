use Rattle.std.proofs.Common.{◌≡◌, ◌+◌, List, [], ◌∷◌, ◌++◌, take, sym, ◌∙◌, ap, subst}
use Rattle.std.proofs.lemmas.List.{take_all, take_more}
use Rattle.sw_jobs.specs.Firsts.{IsLeast, lesser}
use Rattle.sw_jobs.specs.declared.job.Job.{Job}
use Rattle.sw_jobs.proofs.Pairs.{first_for-key, least-none, least-step}
use Rattle.sw_jobs.proofs.disagreeing.first_pair.Goals as goal

pub loop-job-init : goal.loop-job-init
loop-job-init c = least-none c.args.firsts.now

pub pair_at-requires : goal.pair_at-requires
pair_at-requires c = λ first kept. first_for-key c.args.jobs.now c.args.firsts.now c.job-item.result.work first c.requires kept

pub loop-job-preserved : goal.loop-job-preserved
loop-job-preserved c =
    let before = take c.loop-job.job-index c.args.jobs.now in
    let more : take (c.loop-job.job-index + 1) c.args.jobs.now ≡ before ++ c.job-item.result ∷ [] =
    take_more c.args.jobs.now c.loop-job.job-index c.job-item.result c.loop-job-test.true ∙ ap (λ (j : Job). before ++ j ∷ []) (sym c.job-item.is) in
    let least : IsLeast c.args.firsts.now (before ++ c.job-item.result ∷ []) (lesser c.loop-job.found c.pair_at.result) =
    least-step c.args.firsts.now before c.job-item.result c.loop-job.found c.pair_at.result c.loop-job.invariant c.pair_at.ensures in
    let with_more : IsLeast c.args.firsts.now (take (c.loop-job.job-index + 1) c.args.jobs.now) (lesser c.loop-job.found c.pair_at.result) =
    subst (λ (jobs : List Job). IsLeast c.args.firsts.now jobs (lesser c.loop-job.found c.pair_at.result)) (sym more) least in
    subst (IsLeast c.args.firsts.now (take (c.loop-job.job-index + 1) c.args.jobs.now)) (sym c.lesser-found.ensures) with_more

pub returns : goal.returns
returns c =
    let all : take c.loop-job.job-index c.args.jobs.now ≡ c.args.jobs.now = take_all c.loop-job.job-index c.args.jobs.now c.loop-job-test.false in
    subst (λ (jobs : List Job). IsLeast c.args.firsts.now jobs c.loop-job.found) all c.loop-job.invariant
