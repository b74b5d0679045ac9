use Rattle.std.proofs.Common.{◌≡◌, Some, refl, sym, ◌∙◌, ap, subst, Bor, Option}
use Rattle.std.specs.Option.{option_copied}
use Rattle.sw_jobs.specs.Disagreements.{Clash}
use Rattle.sw_jobs.specs.Firsts.{first_for, key_of}
use Rattle.sw_jobs.specs.declared.job.Job.{Job}
use Rattle.sw_jobs.specs.declared.job.Work.{Work}
use Rattle.sw_jobs.proofs.Pairs.{clash-from}
use Rattle.sw_jobs.proofs.disagreeing.pair_at.Goals as goal

pub returns-then-puts_other : goal.returns-then-puts_other
returns-then-puts_other c =
    let first = c.in_ok-first.first.now in
    let kept : first_for c.args.firsts.now c.args.job.now.work ≡ Some first =
    ap (first_for c.args.firsts.now) c.in-Put.is ∙ (sym c.get.ensures ∙ ap (λ (o : Option (Bor Job)). option_copied o) c.in_ok-first.was) in
    let keys : key_of first.work ≡ Some (c.in-Put.time, c.in-Put.name) = c.requires first kept ∙ ap key_of c.in-Put.is in
    let other = c.puts_other.ensures.0 c.if-puts_other.true in
    let clash = clash-from first.work c.in-Put.device c.in-Put.name c.in-Put.time c.in-Put.content keys other in
    (first, record { is_kept = kept; clash = subst (λ (w : Work). Clash first.work w) (sym c.in-Put.is) clash }, refl)
